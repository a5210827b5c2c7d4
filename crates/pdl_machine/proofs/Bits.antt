-- Replies, bit after bit.
use Rattle.std.proofs.Common.{◌≡◌, ap, ap₂, ◌∙◌, ℕ, suc, ◌+◌, ◌<◌, ◌/◌, ◌%◌, ◌==◌, Bool, List, [], ◌∷◌, ◌++◌, take, drop, length, set, arith, append_assoc}
use Rattle.std.proofs.lemmas.List.{length-drop, take_more_set, drop-set-lt}
use Rattle.pdl_machine_facts.specs.Ports.{replies_of}

-- replies that are read bit after bit are the same list after the next bit, which is the lowest that is left
pub bits_more : (now : List Bool) (i left : ℕ) (all : List Bool)
    → i < length now → take i now ++ replies_of (length (drop i now)) left ≡ all
    → take (i + 1) (set now i (left % 2 == 1)) ++ replies_of (length (drop (i + 1) (set now i (left % 2 == 1)))) (left / 2) ≡ all
bits_more now i left all less h =
    let bit : Bool = left % 2 == 1 in
    let rest : length (drop (i + 1) (set now i bit)) ≡ length (drop (i + 1) now) =
    ap (λ (bs : List Bool). length bs) (drop-set-lt (i + 1) now i bit (omega arith)) in
    let one : suc (length (drop (i + 1) now)) ≡ length (drop i now) = omega (arith, length-drop {A = Bool}, less) in
    ap₂ (λ (bs : List Bool) n. bs ++ replies_of n (left / 2)) (take_more_set now i bit less) rest
    ∙ append_assoc (take i now) (bit ∷ []) (replies_of (length (drop (i + 1) now)) (left / 2))
    ∙ ap (λ n. take i now ++ replies_of n left) one
    ∙ h
