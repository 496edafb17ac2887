-- The numbers of the format for the kinds of a record.
use Rattle.std.specs.Prelude.{◌≡◌, ◌≤◌, ℕ, Ok, Err, Result}
use Rattle.record.specs.declared.label.Kind.{Kind}
use Rattle.record.specs.declared.label.Kind.TheVariants.{More, Last, Whole, Mark}
use Rattle.record.specs.declared.label.NoKind.{NoKind}

abbrev pub code_of : Kind → ℕ
code_of More = 1
code_of Last = 2
code_of Whole = 3
code_of Mark = 4

-- The kind that a byte stands for, if it stands for one.
abbrev pub Decoded : ℕ → Result Kind NoKind → Type 0
Decoded byte (Ok k) = byte ≡ code_of k
Decoded byte (Err _) = (1 ≤ byte) × (byte ≤ 4) → ⊥
