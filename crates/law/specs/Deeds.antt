-- What the inner calls of a script do, before that is told as events.
use Rattle.std.specs.Prelude.{◌≡◌, ℕ, ◌-◌, ◌<◌, ◌≤◌, ◌⊎◌, Bool, true, false, List, ◌++◌, length, take, drop, slice_set, None, Some, Result}
use Rattle.device.specs.Disk.{Disk}
use Rattle.transactions.specs.declared.fault.StoreFault.{StoreFault}
use Rattle.transactions.specs.declared.token.Token.{Token}
use Rattle.transactions.specs.Held.{Held, Formatted, Opened, Begins, SetsRange, WritesRange, ReadsRange, Commits, Aborts, Flushes, Truncates}
use Rattle.law.specs.declared.script.Call.TheVariants as script
use Rattle.law.specs.declared.script.Call as scripts
use Rattle.law.specs.declared.script.Answer.{Answer}
use Rattle.law.specs.declared.script.Answer.TheVariants as told
use Rattle.law.specs.Events.{Moment, working, closed}
use Rattle.law.specs.Run.{Places, token_at, is_free, begun, told_begun}

-- A call that is shown a token, or takes it, is not made without it.
abbrev pub WithToken : Places → ℕ → (Token → Type 0) → Held → Answer → Held → Type 0
WithToken places i does h a k =
    ((t : Token) × (token_at places i ≡ Some t) × does t) ⊎ ((token_at places i ≡ None) × (a ≡ told.NotMade) × (k ≡ h))

abbrev pub DoesBegin : Places → ℕ → Held → Answer → Held → Places → Type 0
DoesBegin places i h a k places' =
    ((is_free places i ≡ true) × (r : Result Token StoreFault) × (a ≡ told_begun r) × Begins h r k × (places' ≡ begun places i r))
    ⊎ ((is_free places i ≡ false) × (a ≡ told.NotMade) × (k ≡ h) × (places' ≡ places))

abbrev pub DoesDeclare : Places → ℕ → ℕ → ℕ → Held → Answer → Held → Type 0
DoesDeclare places i start size h a k =
    WithToken places i (λ t. (r : Result (Unit {0}) StoreFault) × (a ≡ told.Declared r) × SetsRange t.number start size h r k) h a k

abbrev pub DoesWrite : Places → ℕ → ℕ → List ℕ → Held → Answer → Held → Type 0
DoesWrite places i start bytes h a k =
    WithToken places i (λ t. (r : Result (Unit {0}) StoreFault) × (a ≡ told.Written r) × WritesRange t.number start bytes h r k) h a k

abbrev pub DoesCommit : Places → ℕ → Bool → Held → Answer → Held → Type 0
DoesCommit places i flushed h a k =
    WithToken places i (λ t. (r : Result (ℕ × ℕ) StoreFault) × (a ≡ told.Committed r) × Commits t.number flushed h r k) h a k

abbrev pub DoesAbort : Places → ℕ → Held → Answer → Held → Type 0
DoesAbort places i h a k =
    WithToken places i (λ t. (r : Result (Unit {0}) StoreFault) × (a ≡ told.Aborted r) × Aborts t.number h r k) h a k

abbrev pub DoesRead : ℕ → ℕ → ℕ → Held → List ℕ → Answer → List ℕ → Type 0
DoesRead start first end h buffer a buffer' =
    ((first ≤ end) × (end ≤ length buffer) × (r : Result (Unit {0}) StoreFault) × (bytes : List ℕ) × (a ≡ told.Read r)
    × ReadsRange start h (take (end - first) (drop first buffer)) r bytes
    × (buffer' ≡ take first buffer ++ (bytes ++ drop (end - first) (drop first buffer))))
    ⊎ (((end < first) ⊎ (length buffer < end)) × (a ≡ told.NotMade) × (buffer' ≡ buffer))

abbrev pub DoesFlush : Held → Answer → Held → Type 0
DoesFlush h a k = (r : Result ℕ StoreFault) × (a ≡ told.Flushed r) × Flushes h r k

abbrev pub DoesTruncate : Held → Answer → Held → Type 0
DoesTruncate h a k = (r : Result ℕ StoreFault) × (a ≡ told.Truncated r) × Truncates h r k

-- All but a close, which gives the store up.
abbrev pub Does : scripts.Call → Held → Places → List ℕ → Answer → Held → Places → List ℕ → Type 0
Does script.Format h ps b a k ps' b' = (a ≡ told.NotMade) × (k ≡ h) × (ps' ≡ ps) × (b' ≡ b)
Does script.Open h ps b a k ps' b' = (a ≡ told.NotMade) × (k ≡ h) × (ps' ≡ ps) × (b' ≡ b)
Does script.Close h ps b a k ps' b' = ⊥
Does (script.Begin i) h ps b a k ps' b' = DoesBegin ps i h a k ps' × (b' ≡ b)
Does (script.SetRange i start size) h ps b a k ps' b' = DoesDeclare ps i start size h a k × (ps' ≡ ps) × (b' ≡ b)
Does (script.Write i start bytes) h ps b a k ps' b' = DoesWrite ps i start bytes.now h a k × (ps' ≡ ps) × (b' ≡ b)
Does (script.Read start first end) h ps b a k ps' b' = DoesRead start first end h b a b' × (k ≡ h) × (ps' ≡ ps)
Does (script.Commit i flushed) h ps b a k ps' b' = DoesCommit ps i flushed h a k × (ps' ≡ slice_set ps i None) × (b' ≡ b)
Does (script.Abort i) h ps b a k ps' b' = DoesAbort ps i h a k × (ps' ≡ slice_set ps i None) × (b' ≡ b)
Does script.Flush h ps b a k ps' b' = DoesFlush h a k × (ps' ≡ ps) × (b' ≡ b)
Does script.Truncate h ps b a k ps' b' = DoesTruncate h a k × (ps' ≡ ps) × (b' ≡ b)

-- A store works then, and this holds of it.
abbrev pub WorksThen : Moment → (Held → Type 0) → Type 0
WorksThen (working k) holds = holds k
WorksThen (closed d) holds = ⊥

-- On a device that lies alone, only a format and an opening do something.
abbrev pub Starts : scripts.Call → Disk → Answer → Moment → Type 0
Starts script.Format d a m = (r : Result (Unit {0}) StoreFault) × (a ≡ told.Formatted r) × WorksThen m (λ k. Formatted d r k)
Starts script.Open d a m = (r : Result (ℕ × ℕ) StoreFault) × (a ≡ told.Opened r) × WorksThen m (λ k. Opened d r k)
Starts _ d a m = (a ≡ told.NotMade) × (m ≡ closed d)
