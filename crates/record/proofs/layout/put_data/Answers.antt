-- What is put in stands before what is left of the zeros.
use Rattle.std.proofs.Common.{◌≡◌, ℕ, ◌+◌, ◌-◌, List, ◌++◌, length, take, drop, replicate, sym, ap, ap₂, ◌∙◌, arith, length-take-le}
use Rattle.std.proofs.lemmas.List.{take-append-drop, take_at, drop_at, drop-drop, drop-replicate}
use Rattle.record.proofs.layout.put_data.Goals as goal

laid : (bytes s m r : List ℕ) → length s ≡ 128 → m ≡ take 32 s ++ replicate 96 0
    → take (32 + length bytes) r ≡ take 32 m ++ bytes → drop (32 + length bytes) r ≡ drop (32 + length bytes) m
    → r ≡ take 32 s ++ bytes ++ replicate (96 - length bytes) 0
laid bytes s m r long zeros front rest =
    let short = length-take-le 32 s (omega arith) in
    let label : take 32 m ≡ take 32 s = ap (take 32) zeros ∙ take_at (take 32 s) (replicate 96 0) 32 short in
    let left : drop (32 + length bytes) m ≡ replicate (96 - length bytes) 0 =
    sym (drop-drop (length bytes) 32 m) ∙ ap (λ (l : List ℕ). drop (length bytes) (drop 32 l)) zeros
    ∙ ap (drop (length bytes)) (drop_at (take 32 s) (replicate 96 0) 32 short) ∙ drop-replicate (length bytes) 96 0 in
    sym (take-append-drop (32 + length bytes) r) ∙ ap₂ (λ (a b : List ℕ). a ++ b) front (rest ∙ left)
    ∙ ap (λ (l : List ℕ). l ++ bytes ++ replicate (96 - length bytes) 0) label

pub returns : goal.returns
returns c = laid c.args.bytes.now c.args.sector.now c.clear.new.sector c.put.new.sector c.told-sector c.clear.ensures c.put.ensures.front c.put.ensures.rest
