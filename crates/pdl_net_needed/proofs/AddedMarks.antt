-- Marks that are added.
use Rattle.std.proofs.Common.{◌≡◌, ◌≢◌, ℕ, zero, suc, ◌+◌, ◌<◌, ◌≤◌, ◌⊎◌, ⊎_elim, inl, inr, Bool, true, false, List, [], ◌∷◌, ◌++◌, length, flat_map, take, get_or, set, refl, sym, ap, ◌∙◌, subst, arith, length-append}
use Rattle.std.specs.Prelude.{Contains}
use Rattle.std.proofs.lemmas.Bool.{cases_eq}
use Rattle.std.proofs.lemmas.List.{get_or-set_same, get_or-set_other, length-set, append-nil, take_more, take_all, get_or_default}
use Rattle.std.proofs.lemmas.List.Concat.{flat_map-append}
use Rattle.std.proofs.lemmas.List.Elements.{Contains-append_left, Contains-append_right, Contains-push, Contains-push_cases}
use Rattle.pdl_word.specs.Each.{Each}
use Rattle.pdl_word.proofs.Bools.{untrue}
use Rattle.pdl_word.proofs.Each.{each_append, each_weaker, each_get}
use Rattle.pdl_net.specs.declared.Net.{Net}
use Rattle.pdl_net.specs.declared.Net.TheVariants.{Input, Reg as RegNet, Cell as CellNet}
use Rattle.pdl_net_needed.specs.Needed.{Choice, is_kept, IsKept}
use Rattle.pdl_net_needed.specs.Marks.{IsWithin, with_kept}
use Rattle.pdl_net_needed.specs.Marking.{Work, IsPart, unset, left_of, Adds}
use Rattle.pdl_net_needed.proofs.Counts.{within_marks}
use Rattle.pdl_net_needed.proofs.ClosedChoices.{each_unflat}

-- ---- one mark

set_stays : (bs : List Bool) (i j : ℕ) → get_or bs j false ≡ true → get_or (set bs i true) j false ≡ true
set_stays bs i j e = ⊎_elim
    (λ (same : j ≡ i).
    let w = within_marks bs j e in
    ap (λ n. get_or (set bs i true) n false) same ∙ get_or-set_same bs i true false (omega arith))
    (λ (other : j ≢ i). get_or-set_other bs i j true false other ∙ e)
    (cases_eq j i)

set_cases : (bs : List Bool) (i j : ℕ) → get_or (set bs i true) j false ≡ true → (get_or bs j false ≡ true) ⊎ (j ≡ i)
set_cases bs i j e = ⊎_elim
    (λ (same : j ≡ i). inr same)
    (λ (other : j ≢ i). inl (sym (get_or-set_other bs i j true false other) ∙ e))
    (cases_eq j i)

unset_less : (bs : List Bool) (i : ℕ) → i < length bs → get_or bs i false ≡ false → unset bs ≡ suc (unset (set bs i true))
unset_less [] i l e = absurd (omega arith)
unset_less (true ∷ bs) zero l e = untrue (sym e)
unset_less (false ∷ bs) zero l e = refl
unset_less (true ∷ bs) (suc i) l e = unset_less bs i (omega arith) e
unset_less (false ∷ bs) (suc i) l e = ap suc (unset_less bs i (omega arith) e)

kept_stays : (k : Choice) (x y : Net) → IsKept k y → IsKept (with_kept k x) y
kept_stays k (Input i) y e = e
kept_stays k (RegNet r) (Input i) e = refl
kept_stays k (RegNet r) (RegNet q) e = set_stays k.regs r q e
kept_stays k (RegNet r) (CellNet j) e = e
kept_stays k (CellNet j) (Input i) e = refl
kept_stays k (CellNet j) (RegNet r) e = e
kept_stays k (CellNet j) (CellNet i) e = set_stays k.cells j i e

kept_now : (k : Choice) (x : Net) → IsWithin k x → IsKept (with_kept k x) x
kept_now k (Input i) w = refl
kept_now k (RegNet r) w = get_or-set_same k.regs r true false w
kept_now k (CellNet j) w = get_or-set_same k.cells j true false w

kept_cases : (k : Choice) (x y : Net) → IsKept (with_kept k x) y → IsKept k y ⊎ (x ≡ y)
kept_cases k (Input i) y e = inl e
kept_cases k (RegNet r) (Input i) e = inl refl
kept_cases k (RegNet r) (RegNet q) e = ⊎_elim (λ f. inl f) (λ f. inr (ap RegNet (sym f))) (set_cases k.regs r q e)
kept_cases k (RegNet r) (CellNet j) e = inl e
kept_cases k (CellNet j) (Input i) e = inl refl
kept_cases k (CellNet j) (RegNet r) e = inl e
kept_cases k (CellNet j) (CellNet i) e = ⊎_elim (λ f. inl f) (λ f. inr (ap CellNet (sym f))) (set_cases k.cells j i e)

is_part : (k : Choice) (x : Net) → is_kept k x ≡ false → IsPart x
is_part k (Input i) e = untrue (sym e)
is_part k (RegNet r) e = tt
is_part k (CellNet j) e = tt

with_regs : (k : Choice) (x : Net) → length (with_kept k x).regs ≡ length k.regs
with_regs k (Input i) = refl
with_regs k (RegNet r) = length-set k.regs r true
with_regs k (CellNet j) = refl

with_cells : (k : Choice) (x : Net) → length (with_kept k x).cells ≡ length k.cells
with_cells k (Input i) = refl
with_cells k (RegNet r) = refl
with_cells k (CellNet j) = length-set k.cells j true

fewer_left : (w : Work) (x : Net) → IsWithin w.kept x
    → is_kept w.kept x ≡ false
    → left_of (record { kept = with_kept w.kept x; waiting = w.waiting ++ x ∷ [] }) ≡ left_of w
fewer_left w (Input i) h e = untrue (sym e)
fewer_left w (RegNet r) h e = let u = unset_less w.kept.regs r h e in let l = length-append w.waiting (RegNet r ∷ []) in omega arith
fewer_left w (CellNet j) h e = let u = unset_less w.kept.cells j h e in let l = length-append w.waiting (CellNet j ∷ []) in omega arith

one : (x : Net) → Contains (x ∷ []) x
one x = (zero, omega arith, refl)

-- ---- what is added

-- where nothing changes no net is added to the marked ones
pub adds_none : (w : Work) → Adds w w []
adds_none w = record {
  regs = refl;
  cells = refl;
  stays = λ x e. e;
  marked = tt;
  fresh = λ x e. inl e;
  waiting = λ x m. m;
  added = λ x m. inl m;
  left = refl;
}

-- a net that is marked already is added without a change
pub adds_marked : (w : Work) (x : Net) → is_kept w.kept x ≡ true → Adds w w (x ∷ [])
adds_marked w x e = record {
  regs = refl;
  cells = refl;
  stays = λ y f. f;
  marked = (e, tt);
  fresh = λ y f. inl f;
  waiting = λ y m. m;
  added = λ y m. inl m;
  left = refl;
}

adds_one : (w : Work) (x : Net) → IsWithin w.kept x
    → is_kept w.kept x ≡ false → Adds w (record { kept = with_kept w.kept x; waiting = w.waiting ++ x ∷ [] }) (x ∷ [])
adds_one w x h e = record {
  regs = with_regs w.kept x;
  cells = with_cells w.kept x;
  stays = λ y f. kept_stays w.kept x y f;
  marked = (kept_now w.kept x h, tt);
  fresh = λ y f. ⊎_elim
      (λ (g : IsKept w.kept y). inl g)
      (λ (g : x ≡ y). inr (subst (λ z. Contains (x ∷ []) z × Contains (w.waiting ++ x ∷ []) z) g (one x, Contains-push w.waiting x)))
      (kept_cases w.kept x y f);
  waiting = λ y m. Contains-append_left w.waiting (x ∷ []) y m;
  added = λ y m. ⊎_elim
      (λ (g : Contains w.waiting y). inl g)
      (λ (g : x ≡ y). inr (subst (λ z. IsPart z × IsKept (with_kept w.kept x) z) g (is_part w.kept x e, kept_now w.kept x h)))
      (Contains-push_cases w.waiting x y m);
  left = fewer_left w x h e;
}

-- a net that was not marked is added by its mark, and is still to be looked at
pub adds_new : (w v : Work) (x : Net) → IsWithin w.kept x
    → is_kept w.kept x ≡ false → v.kept ≡ with_kept w.kept x → v.waiting ≡ w.waiting ++ x ∷ [] → Adds w v (x ∷ [])
adds_new w v x h e k m =
    subst (λ j. Adds w (record { kept = j; waiting = v.waiting }) (x ∷ [])) (sym k)
    (subst (λ ys. Adds w (record { kept = with_kept w.kept x; waiting = ys }) (x ∷ [])) (sym m) (adds_one w x h e))

-- nets that are added after others are added together with them
pub adds_then : (a b c : Work) (xs ys : List Net) → Adds a b xs → Adds b c ys → Adds a c (xs ++ ys)
adds_then a b c xs ys h g = record {
  regs = g.regs ∙ h.regs;
  cells = g.cells ∙ h.cells;
  stays = λ x e. g.stays x (h.stays x e);
  marked = each_append (IsKept c.kept) xs ys (each_weaker (IsKept b.kept) (IsKept c.kept) g.stays xs h.marked) g.marked;
  fresh = λ x e. ⊎_elim
      (λ (f : IsKept b.kept x). ⊎_elim
      (λ (f : IsKept a.kept x). inl f)
      (λ (f : Contains xs x × Contains b.waiting x). inr (Contains-append_left xs ys x f.0, g.waiting x f.1))
      (h.fresh x f))
      (λ (f : Contains ys x × Contains c.waiting x). inr (Contains-append_right xs ys x f.0, f.1))
      (g.fresh x e);
  waiting = λ x m. g.waiting x (h.waiting x m);
  added = λ x m. ⊎_elim
      (λ (f : Contains b.waiting x). ⊎_elim
      (λ (f : Contains a.waiting x). inl f)
      (λ (f : IsPart x × IsKept b.kept x). inr (f.0, g.stays x f.1))
      (h.added x f))
      (λ (f : IsPart x × IsKept c.kept x). inr f)
      (g.added x m);
  left = g.left ∙ h.left;
}

-- nets that are added after a first one are added together with it
pub adds_first : (a b c : Work) (x : Net) (ys : List Net) → Adds a b (x ∷ []) → Adds b c ys → Adds a c (x ∷ ys)
adds_first a b c x ys h g = adds_then a b c (x ∷ []) ys h g

within_added : (a b : Choice) → length b.regs ≡ length a.regs → length b.cells ≡ length a.cells → (x : Net) → IsWithin a x → IsWithin b x
within_added a b r c (Input i) h = tt
within_added a b r c (RegNet q) h = omega (arith, r, h)
within_added a b r c (CellNet j) h = omega (arith, c, h)

-- a net that has a place for its mark still has one after nets are marked
pub within_stays : (a b : Work) (xs : List Net) (x : Net) → Adds a b xs → IsWithin a.kept x → IsWithin b.kept x
within_stays a b xs x h w = within_added a.kept b.kept h.regs h.cells x w

each_within_stays : (a b : Work) (xs ys : List Net) → Adds a b xs → Each (IsWithin a.kept) ys → Each (IsWithin b.kept) ys
each_within_stays a b xs ys h w = each_weaker (IsWithin a.kept) (IsWithin b.kept) (λ x e. within_stays a b xs x h e) ys w

-- ---- over lists

-- the nets of the first i elements and then those of one more are added as those of the first i + 1
pub adds_more : {X : Type 0} (f : X → List Net) (ps : List X) (i : ℕ) (p : X) (a b c : Work)
    → i < length ps → p ≡ get_or ps i p → Adds a b (flat_map f (take i ps)) → Adds b c (f p)
    → Adds a c (flat_map f (take (i + 1) ps))
adds_more f ps i p a b c l e h g =
    let t : flat_map f (take i ps) ++ f p ≡ flat_map f (take (i + 1) ps) =
    sym
    (ap (flat_map f) (take_more ps i p l ∙ ap (λ y. take i ps ++ y ∷ []) (sym e))
    ∙ flat_map-append f (take i ps) (p ∷ []) ∙ ap (λ ys. flat_map f (take i ps) ++ ys) (append-nil (f p))) in
    subst (Adds a c) t (adds_then a b c (flat_map f (take i ps)) (f p) h g)

-- past the last element, the nets of all elements are added
pub adds_all : {X : Type 0} (f : X → List Net) (ps : List X) (i : ℕ) (a b : Work)
    → length ps ≤ i → Adds a b (flat_map f (take i ps)) → Adds a b (flat_map f ps)
adds_all f ps i a b l h = subst (λ qs. Adds a b (flat_map f qs)) (take_all i ps l) h

-- where the nets of all elements have places for their marks, those of the i-th have them after others are marked
pub within_at : {X : Type 0} (f : X → List Net) (ps : List X) (i : ℕ) (p : X) (a b : Work) (xs : List Net)
    → i < length ps → p ≡ get_or ps i p → Adds a b xs → Each (IsWithin a.kept) (flat_map f ps)
    → Each (IsWithin b.kept) (f p)
within_at f ps i p a b xs l e h w =
    each_within_stays a b xs (f p) h
    (subst (λ q. Each (IsWithin a.kept) (f q)) (sym e) (each_get (λ q. Each (IsWithin a.kept) (f q)) ps i p l (each_unflat (IsWithin a.kept) f ps w)))

-- the nets of the first i elements and then those of the element read at i are added as those of the first i + 1
pub adds_read : {X : Type 0} (f : X → List Net) (ps : List X) (i : ℕ) (d : X) (a b c : Work)
    → i < length ps → Adds a b (flat_map f (take i ps)) → Adds b c (f (get_or ps i d))
    → Adds a c (flat_map f (take (i + 1) ps))
adds_read f ps i d a b c l h g = adds_more f ps i (get_or ps i d) a b c l (get_or_default ps i d (get_or ps i d) l) h g

-- the nets of the i-th element of a list have marks after others were added
pub within_read : {X : Type 0} (f : X → List Net) (ps : List X) (i : ℕ) (d : X) (a b : Work) (xs : List Net)
    → i < length ps → Adds a b xs → Each (IsWithin a.kept) (flat_map f ps) → Each (IsWithin b.kept) (f (get_or ps i d))
within_read f ps i d a b xs l h w = within_at f ps i (get_or ps i d) a b xs l (get_or_default ps i d (get_or ps i d) l) h w

pub ruleset firsts = (adds_none, adds_first, within_stays)

pub ruleset lists = (adds_none, adds_more, adds_all, within_at)
