use Rattle.std.proofs.Common.{ℕ, sym, ap, get_or, List, Option}
use Rattle.pdl_image.specs.Images.{LineWords}
use Rattle.pdl_image.proofs.LineSteps.{IsNamed, nothing_taken, no_form, no_memory, words_follow}
use Rattle.pdl_image.proofs.read.take_line.Goals as goal

pub returns-then-says_nothing : goal.returns-then-says_nothing
returns-then-says_nothing c = λ before e. nothing_taken c.args.ranged _ before _ _ (sym c.if-says_nothing.ensures) e

pub returns-in_default : goal.returns-in_default
returns-in_default c = λ before e. no_form c.args.ranged _ before _ (sym c.if-says_nothing.ensures) c.in_default.ensures

pub returns-in_default-place_of : goal.returns-in_default-place_of
returns-in_default-place_of c = λ before e. no_memory c.args.ranged _ before _ _ (sym c.if-says_nothing.ensures) c.in-Some.ensures (sym c.in_default-place_of.ensures.value)

pub returns : goal.returns
returns c = λ before e.
    let w : LineWords = record { name = c.in-Some.words.name.now; ends = c.in-Some.words.ends; value = c.in-Some.words.value } in
    let row : List (Option ℕ) = get_or c.args.slots.now c.in-Some-place_of.place c.index-slots-place.result in
    let f : IsNamed c.args.ranged c.args.mems.now before c.args.line.now w c.in-Some-place_of.place c.index-mems-place.result row c.args.slots.now = record {
      said = sym c.if-says_nothing.ensures;
      word = c.in-Some.ensures;
      found = sym c.in-Some-place_of.ensures.value;
      mem = c.index-mems-place.is;
      was = e;
      here = ap (get_or c.args.slots.now c.in-Some-place_of.place) c.index-slots-place.is;
    } in
    words_follow c.args.ranged _ before _ _ _ _ _ _ _ _ c.requires.names f c.put_words.ensures.rule c.put_words.ensures.kept
