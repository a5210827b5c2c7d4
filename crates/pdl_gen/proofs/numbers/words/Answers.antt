use Rattle.std.proofs.Common.{◌≡◌, sym, ap, ap₂, ◌∙◌, suc, ◌+◌, ◌/◌, ◌%◌, ◌++◌, [], ◌∷◌, List, ℕ, arith}
use Rattle.std.proofs.lemmas.List.FromFn.{map-range_with_len_more}
use Rattle.pdl_gen.specs.Generated.{next, number, byte}
use Rattle.pdl_gen.proofs.Numbering.{first_number, number_more}
use Rattle.pdl_gen.proofs.numbers.words.Goals as goal

pub loop-address-init : goal.loop-address-init
loop-address-init c =
    record {
      number = c.next-x.ensures.value ∙ ap next c.from.ensures ∙ sym (first_number c.args.n);
      below = c.next-x.ensures.below;
      words = c.new-words.ensures.items;
    }

pub loop-address-preserved : goal.loop-address-preserved
loop-address-preserved c =
    let n = c.args.n in
    let i = c.loop-address._address in
    let more : i + 2 ≡ suc (i + 1) = omega arith in
    let now : c.next-x-in-loop-address.result ≡ number n (i + 2) =
    c.next-x-in-loop-address.ensures.value ∙ ap next c.loop-address.invariant.number ∙ sym (number_more n (i + 1) (i + 2) more) in
    let same : i + 1 + 1 ≡ i + 2 = omega arith in
    record {
      number = now ∙ ap (number n) (sym same);
      below = c.next-x-in-loop-address.ensures.below;
      words =
          c.in_ok-push.ensures.items
          ∙ ap₂ (λ (l : List ℕ) (v : ℕ). l ++ v ∷ []) c.loop-address.invariant.words (c.from-in-loop-address.ensures ∙ (c.byte_of.ensures ∙ ap (λ x. x / 65536 % 256) now))
          ∙ sym (map-range_with_len_more (λ j. byte n (j + 2)) 0 i i (omega arith));
    }
