use Rattle.std.proofs.Common.{refl, lit<}
use Rattle.std.proofs.lemmas.Nat.{pow_pos}
use Rattle.pdl_word.proofs.Laws.{and_same, or_same, xor_same, sub_same, equal_same, differ_same, less_same}
use Rattle.pdl_build.proofs.rules.on_one_word.Goals as goal

pub returns-in-And : goal.returns-in-And
returns-in-And c = λ w x. rw c.in-And.is (refl, and_same x)

pub returns-in-Or : goal.returns-in-Or
returns-in-Or c = λ w x. rw c.in-Or.is (refl, or_same x)

pub returns-in-Xor : goal.returns-in-Xor
returns-in-Xor c = λ w x. rw c.in-Xor.is (pow_pos w, xor_same x)

pub returns-in-Sub : goal.returns-in-Sub
returns-in-Sub c = λ w x. rw c.in-Sub.is (pow_pos w, sub_same w x)

pub returns-in-Eq : goal.returns-in-Eq
returns-in-Eq c = λ w x. rw c.in-Eq.is (lit< tt, equal_same x)

pub returns-in-Ne : goal.returns-in-Ne
returns-in-Ne c = λ w x. rw c.in-Ne.is (lit< tt, differ_same x)

pub returns-in-Lt : goal.returns-in-Lt
returns-in-Lt c = λ w x. rw c.in-Lt.is (lit< tt, less_same x)
