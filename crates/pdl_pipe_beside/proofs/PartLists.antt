-- Parts of a circuit, one after the other.
use Rattle.std.proofs.Common.{◌≡◌, ℕ, ◌+◌, ◌<◌, ◌≤◌, ◌∙◌, List, [], ◌∷◌, ◌++◌, length, length-append, refl, sym, ap, subst, arith, inl, inr}
use borrow.Author.Count.{below_more}
use Rattle.std.specs.Prelude.{Option, Some, None}
use Rattle.pdl_net.specs.Circuit.{Circuit}
use Rattle.pdl_net.specs.Growth.{Own, Outside, ExtendsBut}
use Rattle.pdl_net.proofs.Keeps.{but_keeps, keeps_trans}
use Rattle.pdl_pipe_walk.specs.Locked.{some_at}
use Rattle.pdl_pipe_beside.specs.Parts.{AreParts, IsNewPart, own_of, own_at, ExtendsParts}
use Rattle.pdl_pipe_walk.proofs.Lists.{some_before, some_last}

-- one part more, in a circuit that grew
module _ {T : Type 0} (own : T → Own) (A B : ℕ → Option T → Type 0) (low : ℕ) (a b : Circuit) (xs : List (Option T)) (o : Option T) (n : ℕ)
    (stays : (i : ℕ) (q : Option T) → A i q → B i q) (grows : length a.regs ≤ length b.regs)
    (above : low ≤ length a.regs) (new : IsNewPart own a b o) (has : B n o)
    (h : AreParts own A low (length a.regs) xs n) where
  old : (i : ℕ) → i < n → some_at (xs ++ o ∷ []) i ≡ some_at xs i
  old i l = some_before xs o i (omega (arith, l, h.count))

  last : some_at (xs ++ o ∷ []) n ≡ o
  last = some_last xs o n h.count

  -- with one part more, the first n + 1 parts have what they should, with registers that follow one another
  pub parts_more : AreParts own B low (length b.regs) (xs ++ o ∷ []) (n + 1)
  parts_more = record {
    count = length-append xs (o ∷ []) ∙ ap (λ k. k + 1) h.count;
    each = below_more (λ i. B i (some_at (xs ++ o ∷ []) i)) n
        (λ i l. subst (B i) (sym (old i l)) (stays i (some_at xs i) (h.each i l)))
        (subst (B n) (sym last) has);
    from = λ i x l e. below_more (λ i. (x : T) → some_at (xs ++ o ∷ []) i ≡ Some x → low ≤ (own x).from) n
        (λ i l x e. h.from i x l (sym (old i l) ∙ e))
        (λ x e. let f = new.from x (sym last ∙ e) in omega (arith, f, above)) i l x e;
    to = λ i x l e. below_more (λ i. (x : T) → some_at (xs ++ o ∷ []) i ≡ Some x → (own x).to ≤ length b.regs) n
        (λ i l x e. let f = h.to i x l (sym (old i l) ∙ e) in omega (arith, f, grows))
        (λ x e. new.to x (sym last ∙ e)) i l x e;
    apart = λ i j x y l k e f. below_more (λ j. (y : T) → i < j → some_at (xs ++ o ∷ []) j ≡ Some y → (own x).to ≤ (own y).from) n
        (λ j k y l f. let u : i < n = omega (arith, l, k) in h.apart i j x y l k (sym (old i u) ∙ e) (sym (old j k) ∙ f))
        (λ y l f. let g = h.to i x l (sym (old i l) ∙ e) in let w = new.from y (sym last ∙ f) in omega (arith, g, w)) j k y l f;
  }

-- ---- what changes

-- one part more has changed, that has no array
pub extends_more : (owns : ℕ → Own) (n : ℕ) (a b c : Circuit)
    → (owns n).last ≡ 0 → ExtendsParts owns n a b → ExtendsBut (owns n) b c → ExtendsParts owns (n + 1) a c
extends_more owns n a b c none x y = record {
  keeps = keeps_trans a b c x.keeps (but_keeps (owns n) b c y);
  nexts = λ k h u. y.nexts k (x.keeps.has_reg k h) (u n (omega arith)) ∙ x.nexts k h (λ i l. u i (omega (arith, l)));
  writes = λ k h. y.writes k (x.keeps.has_array k h) (inr (omega (arith, none))) ∙ x.writes k h;
  ports = y.ports ∙ x.ports;
  shapes = y.shapes ∙ x.shapes;
}

-- where at most the first i parts have changed, at most the first n have, for a greater n
pub parts_wider : (owns : ℕ → Own) (i n : ℕ) (a b : Circuit) → i ≤ n → ExtendsParts owns i a b → ExtendsParts owns n a b
parts_wider owns i n a b h x = record {
  keeps = x.keeps;
  nexts = λ k r u. x.nexts k r (λ j l. u j (omega (arith, h, l)));
  writes = x.writes;
  ports = x.ports;
  shapes = x.shapes;
}

-- a part's registers are not those of a later one
pub own_apart : {T : Type 0} (own : T → Own) (xs : List (Option T)) (i j : ℕ) (x : T)
    → ((y : T) → some_at xs j ≡ Some y → (own x).to ≤ (own y).from) → (k : ℕ) → k < (own x).to
    → Outside (own_at own xs j).from (own_at own xs j).to k
own_apart {T} own xs i j x apart k l = at (some_at xs j) refl
  where
    at : (o : Option T) → some_at xs j ≡ o → Outside (own_of own o).from (own_of own o).to k
    at None e = inr (omega arith)
    at (Some y) e = let d = apart y e in inl (omega (arith, l, d))
