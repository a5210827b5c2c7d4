-- Passes over what a rule asks, one place after another.
use Rattle.std.proofs.Common.{◌≡◌, ◌⊎◌, inl, inr, ℕ, ◌+◌, ◌<◌, ◌≤◌, Bool, true, false, cond, min, List, [], ◌∷◌, ◌++◌, length, drop, get_or, Option, Some, None, Result, Err, refl, sym, ap, ◌∙◌, arith}
use Rattle.std.proofs.lemmas.List.{drop_more, drop_all}
use Rattle.std.proofs.lemmas.Bool.{cases_lt}
use Rattle.pdl_vread_nets.specs.declared.passes.PassStop.{PassStop}
use Rattle.pdl_vread_nets.specs.declared.passes.PassStop.TheVariants as stop
use Rattle.pdl_vread_text.specs.declared.file.File.{File}
use Rattle.pdl_vread_nets.specs.declared.wiring.Wiring.{Wiring}
use Rattle.pdl_vread_rules.specs.Widths.{widths_of, declared_questions, driven_questions, width_line}
use Rattle.pdl_vread_rules.specs.RuleQuestions.{Asked, first_wrong, both, Tells}

-- where the first are right the first wrong is among the others
pub rest_tells : (xs ys : List Asked) (r : Result (Unit {0}) PassStop)
    → first_wrong xs ≡ None → Tells (first_wrong ys) r → Tells (first_wrong (xs ++ ys)) r
rest_tells [] ys r h t = t
rest_tells (a ∷ xs) ys r h t = go a.right (rest_tells xs ys r) h
  where
    go : (b : Bool) → (first_wrong xs ≡ None → Tells (first_wrong ys) r → Tells (first_wrong (xs ++ ys)) r)
        → cond b (first_wrong xs) (Some a.line) ≡ None → Tells (cond b (first_wrong (xs ++ ys)) (Some a.line)) r
    go true i k = i k t
    go false i k = cc

front_line : (xs ys : List Asked) (line : ℕ) → first_wrong xs ≡ Some line → first_wrong (xs ++ ys) ≡ Some line
front_line [] ys line h = cc
front_line (a ∷ xs) ys line h = go a.right (front_line xs ys line) h
  where
    go : (b : Bool) → (first_wrong xs ≡ Some line → first_wrong (xs ++ ys) ≡ Some line)
        → cond b (first_wrong xs) (Some a.line) ≡ Some line → cond b (first_wrong (xs ++ ys)) (Some a.line) ≡ Some line
    go true i k = i k
    go false i k = k

-- where an element of the first list is wrong, the first such is the first wrong of both
pub front_tells : (xs ys : List Asked) (e : PassStop) → Tells (first_wrong xs) (Err e) → Tells (first_wrong (xs ++ ys)) (Err e)
front_tells xs ys (stop.Broken line) h = front_line xs ys line h
front_tells xs ys stop.NoMemory h = tt

pub ruleset two_parts = (rest_tells, front_tells)

module _ {A B : Type 0} (ask : A → B → Asked) where
  both_more : (xs : List A) (ys : List B) (i : ℕ) (x : A) (y : B) → i < length xs → i < length ys
      → both ask (drop i xs) (drop i ys) ≡ ask (get_or xs i x) (get_or ys i y) ∷ both ask (drop (i + 1) xs) (drop (i + 1) ys)
  both_more xs ys i x y h k =
      ap (λ z. both ask z (drop i ys)) (drop_more xs i x h) ∙ ap (λ z. both ask (get_or xs i x ∷ drop (i + 1) xs) z) (drop_more ys i y k)

  no_seconds : (xs : List A) → both ask xs [] ≡ []
  no_seconds [] = refl
  no_seconds (x ∷ xs) = refl

  both_end : (xs : List A) (ys : List B) (i : ℕ) → i ≡ min (length xs) (length ys) → both ask (drop i xs) (drop i ys) ≡ []
  both_end xs ys i e = go (cases_lt (length ys) (length xs))
    where
      go : (length ys < length xs) ⊎ (length xs ≤ length ys) → both ask (drop i xs) (drop i ys) ≡ []
      go (inl h) = ap (both ask (drop i xs)) (drop_all i ys (omega arith)) ∙ no_seconds (drop i xs)
      go (inr h) = ap (λ z. both ask z (drop i ys)) (drop_all i xs (omega arith))

  -- where the i-th pair is right, the first wrong one is looked for from the next pair on
  pub pair_more : (xs : List A) (ys : List B) (i j : ℕ) (x : A) (y : B) (whole : Option ℕ) → i < length xs
      → i < length ys → j ≡ i + 1 → (ask (get_or xs i x) (get_or ys i y)).right ≡ true
      → first_wrong (both ask (drop i xs) (drop i ys)) ≡ whole → first_wrong (both ask (drop j xs) (drop j ys)) ≡ whole
  pair_more xs ys i j x y whole h k m r w =
      let a = ask (get_or xs i x) (get_or ys i y) in
      let rest = both ask (drop (i + 1) xs) (drop (i + 1) ys) in
      ap (λ n. first_wrong (both ask (drop n xs) (drop n ys))) m
      ∙ (sym (ap (λ b. cond b (first_wrong rest) (Some a.line)) r) ∙ (ap first_wrong (sym (both_more xs ys i x y h k)) ∙ w))

  -- where the i-th pair is wrong, its line is that of the first wrong one
  pub pair_stop : (xs : List A) (ys : List B) (i line : ℕ) (x : A) (y : B) (whole : Option ℕ) → i < length xs
      → i < length ys → (ask (get_or xs i x) (get_or ys i y)).right ≡ false
      → line ≡ (ask (get_or xs i x) (get_or ys i y)).line
      → first_wrong (both ask (drop i xs) (drop i ys)) ≡ whole → whole ≡ Some line
  pair_stop xs ys i line x y whole h k r m w =
      let a = ask (get_or xs i x) (get_or ys i y) in
      let rest = both ask (drop (i + 1) xs) (drop (i + 1) ys) in
      sym w ∙ (ap first_wrong (both_more xs ys i x y h k) ∙ (ap (λ b. cond b (first_wrong rest) (Some a.line)) r ∙ ap Some (sym m)))

  -- past the last pair nothing is wrong
  pub pair_end : (xs : List A) (ys : List B) (i : ℕ) (whole : Option ℕ) → i ≡ min (length xs) (length ys)
      → first_wrong (both ask (drop i xs) (drop i ys)) ≡ whole → whole ≡ None
  pair_end xs ys i whole e w = sym w ∙ ap first_wrong (both_end xs ys i e)

pub ruleset pairs = (pair_more, pair_stop, pair_end)

-- ---- all of V3

-- where no declaration is wrong, what is told of cells, `assign`s and blocks is told of all that V3 asks
pub all_rest : (f : File) (w : Wiring) (r : Result (Unit {0}) PassStop)
    → first_wrong (declared_questions f) ≡ None → Tells (first_wrong (driven_questions f (widths_of f) w)) r
    → Tells (width_line f w) r
unfolding width_line
all_rest f w r h t = rest_tells (declared_questions f) (driven_questions f (widths_of f) w) r h t

-- where a declaration is wrong, what is told of the declarations is told of all that V3 asks
pub all_front : (f : File) (w : Wiring) (e : PassStop) → Tells (first_wrong (declared_questions f)) (Err e) → Tells (width_line f w) (Err e)
unfolding width_line
all_front f w e h = front_tells (declared_questions f) (driven_questions f (widths_of f) w) e h

pub ruleset told_all = (all_rest, all_front)
