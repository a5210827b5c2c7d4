use Rattle.std.proofs.Common.{◌≡◌, ℕ, None, replicate, subst, sym}
use Rattle.pdl_asm.proofs.LineSteps.{addresses_are}
use Rattle.pdl_asm.proofs.words.WordSlots.new.Goals as goal

pub returns : goal.returns
returns c =
    let P : ℕ → Type 0 = λ n. c.in_ok-no_words.field-0.items ≡ replicate n None in
    subst P (sym addresses_are) c.in_ok-no_words.ensures.items
