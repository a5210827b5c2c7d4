-- The marks of locations with which a stage begins, one after the other.
use Rattle.std.proofs.Common.{◌≡◌, inl, inr, ◌⊎◌, ℕ, ◌+◌, ◌<◌, ◌==◌, Bool, true, false, ◌&&◌, ◌||◌, List, [], ◌∷◌, ◌++◌, map, length, refl, sym, ap, ap₂, ◌∙◌, subst, arith}
use Rattle.std.specs.Prelude.{if◌then◌else◌}
use Rattle.std.proofs.lemmas.Bool.{false≢true, and_parts, or_left, or_right}
use Rattle.std.proofs.lemmas.Bool.{eqb-true, eq-eqb}
use Rattle.pdl_form.specs.Form.{Form}
use Rattle.pdl_net.specs.declared.Net.{Net}
use Rattle.pdl_net.specs.Circuit.{Circuit}
use Rattle.pdl_net.specs.Signal.{Signal}
use Rattle.pdl_net.specs.Meaning.{signal, IsThere}
use Rattle.pdl_net.specs.Growth.{Keeps, Extends}
use Rattle.pdl_net.proofs.Keeps.{extends_keeps, extends_trans}
use Rattle.pdl_law_parts.specs.declared.Mark.{Mark as MarkKind}
use Rattle.pdl_law_parts.specs.declared.Mark.TheVariants.{Held, Late}
use Rattle.pdl_law_parts.specs.Lives.{mark_from}
use Rattle.pdl_law_parts.specs.Walk.{zero_bit, same_mark}
use Rattle.pdl_law_parts.specs.Views.{View}
use Rattle.pdl_pipe_walk.specs.declared.nets.MarkNet.{MarkNet}
use Rattle.pdl_pipe_walk.specs.Parts.{mark_in, mark_of}
use Rattle.pdl_pipe_walk.proofs.Lists.{map_each}
use Rattle.pdl_pipe_registers.specs.declared.nets.Item.TheVariants.{Mark}
use Rattle.pdl_pipe_registers.specs.declared.nets.StageRegs.{StageRegs}
use Rattle.pdl_pipe_registers.specs.Stages.{end_of, IsFrame, IsBegunBy, IsSettled, AreOwn}
use Rattle.pdl_pipe_registers.specs.Items.{ended_item, IsOwn}
use Rattle.pdl_pipe_registers.specs.Begun.{is_listed, MayAdd, AddsMark, IsLonger, AreMarksBegun, AreStillListed, HasAllMarks}
use Rattle.pdl_pipe_registers.proofs.RegisterGrowth.{frame_may, own_more, longer_none, longer_trans, longer_may, by_longer, by_new, by_weaker, may_there, may_wide}
use Rattle.pdl_pipe_registers.proofs.Begins.{settled_as, may_as}
use Rattle.pdl_word.specs.Each.{Each}
use Rattle.pdl_word.proofs.Each.{each_weaker, each_push}

-- ---- lists of marks

-- a mark is the same as itself alone
mark_same : (a b : MarkKind) → same_mark a b ≡ true → a ≡ b
mark_same Held Held e = refl
mark_same Held Late e = absurd (false≢true e)
mark_same Late Held e = absurd (false≢true e)
mark_same Late Late e = refl

mark_self : (a : MarkKind) → same_mark a a ≡ true
mark_self Held = refl
mark_self Late = refl

abbrev is_it : MarkNet → MarkKind → ℕ → ℕ → Bool
is_it h mark m v = same_mark h.mark mark && ((h.mem == m) && (h.var == v))

-- with a mark more, just those are listed that were and this one
pub listed_more : (xs : List MarkNet) (h : MarkNet) (mark : MarkKind) (m v : ℕ)
    → is_listed (xs ++ h ∷ []) mark m v ≡ (is_listed xs mark m v || is_it h mark m v)
listed_more [] h mark m v = at (is_it h mark m v)
  where
    at : (b : Bool) → (b || false) ≡ b
    at true = refl
    at false = refl
listed_more (x ∷ xs) h mark m v =
    ap (λ b. is_it x mark m v || b) (listed_more xs h mark m v) ∙ at (is_it x mark m v) (is_listed xs mark m v) (is_it h mark m v)
  where
    at : (a b c : Bool) → (a || (b || c)) ≡ ((a || b) || c)
    at true b c = refl
    at false b c = refl

mark_old : (c : Circuit) (xs : List MarkNet) (h : MarkNet) (mark : MarkKind) (m v : ℕ)
    → is_listed xs mark m v ≡ true → mark_of (map (mark_in c) (xs ++ h ∷ [])) mark m v ≡ mark_of (map (mark_in c) xs) mark m v
mark_old c [] h mark m v e = absurd (false≢true e)
mark_old c (x ∷ xs) h mark m v e = at (is_it x mark m v) e (λ q. mark_old c xs h mark m v q)
  where
    at : (b : Bool) → (b || is_listed xs mark m v) ≡ true
        → (is_listed xs mark m v ≡ true → mark_of (map (mark_in c) (xs ++ h ∷ [])) mark m v ≡ mark_of (map (mark_in c) xs) mark m v)
        → (if b then signal c x.net else mark_of (map (mark_in c) (xs ++ h ∷ [])) mark m v)
        ≡ (if b then signal c x.net else mark_of (map (mark_in c) xs) mark m v)
    at true q f = refl
    at false q f = f q

mark_new : (c : Circuit) (xs : List MarkNet) (h : MarkNet) (mark : MarkKind) (m v : ℕ)
    → is_listed xs mark m v ≡ false → is_it h mark m v ≡ true → mark_of (map (mark_in c) (xs ++ h ∷ [])) mark m v ≡ signal c h.net
mark_new c [] h mark m v e i = ap (λ b. if b then signal c h.net else zero_bit) i
mark_new c (x ∷ xs) h mark m v e i = at (is_it x mark m v) e (λ q. mark_new c xs h mark m v q i)
  where
    at : (b : Bool) → (b || is_listed xs mark m v) ≡ false
        → (is_listed xs mark m v ≡ false → mark_of (map (mark_in c) (xs ++ h ∷ [])) mark m v ≡ signal c h.net)
        → (if b then signal c x.net else mark_of (map (mark_in c) (xs ++ h ∷ [])) mark m v) ≡ signal c h.net
    at true q f = absurd (false≢true (sym q))
    at false q f = f q

-- a location doesn't have a mark that isn't listed
pub mark_none : (c : Circuit) (xs : List MarkNet) (mark : MarkKind) (m v : ℕ)
    → is_listed xs mark m v ≡ false → mark_of (map (mark_in c) xs) mark m v ≡ zero_bit
mark_none c [] mark m v e = refl
mark_none c (x ∷ xs) mark m v e = at (is_it x mark m v) e (λ q. mark_none c xs mark m v q)
  where
    at : (b : Bool) → (b || is_listed xs mark m v) ≡ false
        → (is_listed xs mark m v ≡ false → mark_of (map (mark_in c) xs) mark m v ≡ zero_bit)
        → (if b then signal c x.net else mark_of (map (mark_in c) xs) mark m v) ≡ zero_bit
    at true q f = absurd (false≢true (sym q))
    at false q f = f q

is_it_same : (h : MarkNet) (mark : MarkKind) (m v : ℕ) → is_it h mark m v ≡ true → (h.mark ≡ mark) × (h.mem ≡ m) × (h.var ≡ v)
is_it_same h mark m v e =
    let q = and_parts (same_mark h.mark mark) ((h.mem == m) && (h.var == v)) e in
    let u = and_parts (h.mem == m) (h.var == v) q.1 in
    (mark_same h.mark mark q.0, eqb-true h.mem m u.0, eqb-true h.var v u.1)

or_cases : (a b : Bool) → (a || b) ≡ true → (a ≡ true) ⊎ ((a ≡ false) × (b ≡ true))
or_cases true b e = inl refl
or_cases false b e = inr (refl, e)

-- ---- they stay

module _ (f : Form) (nexts : List Signal) (us : ℕ → View) (k : ℕ) (b c : Circuit) (e : Keeps b c) (hs : List MarkNet) where
  mark_now : Each (λ (h : MarkNet). IsThere b h.net) hs → (mark : MarkKind) (m v : ℕ)
      → mark_of (map (mark_in c) hs) mark m v ≡ mark_of (map (mark_in b) hs) mark m v
  mark_now there mark m v =
      ap (λ xs. mark_of xs mark m v)
      (map_each (mark_in c) (mark_in b) (λ x. IsThere b x.net)
      (λ x t. ap (λ g. record { mark = x.mark; mem = x.mem; var = x.var; signal = g }) (e.kept x.net t)) hs there)

  there_now : Each (λ (h : MarkNet). IsThere b h.net) hs → Each (λ (h : MarkNet). IsThere c h.net) hs
  there_now t = each_weaker (λ (x : MarkNet). IsThere b x.net) (λ x. IsThere c x.net) (λ x q. e.there x.net q) hs t

one_now : (b c : Circuit) → Keeps b c → (xs : List MarkNet) → Each (λ (x : MarkNet). IsThere b x.net) xs
    → Each (λ (x : MarkNet). (signal b x.net).width ≡ 1) xs → Each (λ (x : MarkNet). (signal c x.net).width ≡ 1) xs
one_now b c e [] t o = tt
one_now b c e (x ∷ xs) t o = (ap (λ (g : Signal). g.width) (e.kept x.net t.0) ∙ o.0, one_now b c e xs t.1 o.1)

-- the listed marks stay while the circuit grows and registers are added to the stage's
pub marks_keep : (f : Form) (nexts : List Signal) (us : ℕ → View) (k : ℕ) (b c : Circuit) (r t : StageRegs) (hs : List MarkNet)
    → Keeps b c → IsLonger r t → AreMarksBegun b f nexts us k r hs → AreMarksBegun c f nexts us k t hs
marks_keep f nexts us k b c r t hs e l h = record {
  there = there_now f nexts us k b c e hs h.there;
  one = one_now b c e hs h.there h.one;
  begun = λ mark m v q. by_longer f nexts r t (Mark mark m v) _ (IsSettled f.pipe us k (Mark mark m v)) l
      (subst (λ g. IsBegunBy f nexts r (Mark mark m v) g (IsSettled f.pipe us k (Mark mark m v))) (sym (mark_now f nexts us k b c e hs h.there mark m v))
      (h.begun mark m v q));
}

-- a mark is added as well by other views that end alike
pub adds_as : (c : Circuit) (f : Form) (nexts : List Signal) (us vs : ℕ → View) (k : ℕ) (mark : MarkKind) (m v : ℕ) (r t : StageRegs) (hs xs : List MarkNet)
    → ((j : ℕ) → j < k → ended_item (vs j) (Mark mark m v) ≡ ended_item (us j) (Mark mark m v))
    → AddsMark c f nexts us k mark m v r hs t xs → AddsMark c f nexts vs k mark m v r hs t xs
adds_as c f nexts us vs k mark m v r t hs xs same (inl q) = inl q
adds_as c f nexts us vs k mark m v r t hs xs same (inr q) =
    inr (
      q.0,
      may_as c r t (Mark mark m v) 1 0 q.0 (IsSettled f.pipe us k (Mark mark m v)) (IsSettled f.pipe vs k (Mark mark m v))
          (λ g z. settled_as f.pipe us vs k (Mark mark m v) g same z) q.1,
      q.2,
      q.3,
    )

-- ---- one more

-- the marks so far, with their registers, and those among them that were listed before
pub record MarksSoFar (a c : Circuit) (f : Form) (nexts : List Signal) (us : ℕ → View) (k : ℕ) (r0 : StageRegs)
    (hs0 : List MarkNet) (r : StageRegs) (hs : List MarkNet) : Type 0 where
  pub extends : Extends a c
  pub frame : IsFrame c f nexts k r
  pub own : AreOwn f k r
  pub longer : IsLonger r0 r
  pub begun : AreMarksBegun c f nexts us k r hs
  pub still : AreStillListed hs0 hs

own_mark : (f : Form) (k : ℕ) (mark : MarkKind) (m v : ℕ) → 0 < k → IsOwn f k (Mark mark m v)
own_mark f Rattle.std.proofs.Common.zero mark m v l = absurd (omega (arith, l))
own_mark f (Rattle.std.proofs.Common.suc k) mark m v l = tt

module _ (a b c : Circuit) (f : Form) (nexts : List Signal) (us : ℕ → View) (k : ℕ) (r0 : StageRegs)
    (hs0 : List MarkNet) (r t : StageRegs) (hs xs : List MarkNet) (mark0 : MarkKind) (m0 v0 : ℕ) (after : 0 < k) (bc : Extends b c)
    (last : end_of t ≡ length c.regs)
    (so : MarksSoFar a b f nexts us k r0 hs0 r hs) where
  abbrev Settled : Signal → Type 0
  Settled = IsSettled f.pipe us k (Mark mark0 m0 v0)

  same_case : (t ≡ r) × (xs ≡ hs) × (mark_from f.pipe k mark0 m0 v0 ≡ true → is_listed hs mark0 m0 v0 ≡ true) → MarksSoFar a c f nexts us k r0 hs0 t xs
  same_case q =
      let e = extends_keeps b c bc in
      subst (λ (u : StageRegs). MarksSoFar a c f nexts us k r0 hs0 u xs) (sym q.0) (subst (MarksSoFar a c f nexts us k r0 hs0 r) (sym q.1) record {
        extends = extends_trans a b c so.extends bc;
        frame =
            record {
              last = ap end_of (sym q.0) ∙ last;
              registers = Rattle.pdl_pipe_registers.proofs.RegisterGrowth.registers_keep b c f nexts k r e so.frame.registers;
            };
        own = so.own;
        longer = so.longer;
        begun = marks_keep f nexts us k b c r r hs e (longer_none r) so.begun;
        still = so.still;
      })

  module _ (net : Net) (may : MayAdd c r t (Mark mark0 m0 v0) 1 0 net Settled) (fresh : is_listed hs mark0 m0 v0 ≡ false) where
    abbrev y : MarkNet
    y = record { mark = mark0; mem = m0; var = v0; net = net }

    e : Keeps b c
    e = extends_keeps b c bc

    old : AreMarksBegun c f nexts us k t hs
    old = marks_keep f nexts us k b c r t hs (extends_keeps b c bc) (longer_may c r t (Mark mark0 m0 v0) 1 0 net Settled may) so.begun

    abbrev Begun : MarkKind → ℕ → ℕ → Signal → Type 0
    Begun mark m v g = IsBegunBy f nexts t (Mark mark m v) g (IsSettled f.pipe us k (Mark mark m v))

    here : (mark : MarkKind) (m v : ℕ) → is_listed hs mark m v ≡ false → is_it y mark m v ≡ true
        → Begun mark m v (mark_of (map (mark_in c) (hs ++ y ∷ [])) mark m v)
    here mark m v un q =
        let i = is_it_same y mark m v q in
        let begun : Begun mark0 m0 v0 (signal c net) =
        by_new f nexts c r t (Mark mark0 m0 v0) 0 net Settled may in
        let at_mv : Begun mark m v (signal c net) =
        subst (λ n. Begun mark m n (signal c net)) i.2
        (subst (λ n. Begun mark n v0 (signal c net)) i.1 (subst (λ n. Begun n m0 v0 (signal c net)) i.0 begun)) in
        subst (Begun mark m v) (sym (mark_new c hs y mark m v un q)) at_mv

    by : (mark : MarkKind) (m v : ℕ) → (is_listed hs mark m v ≡ true) ⊎ ((is_listed hs mark m v ≡ false) × (is_it y mark m v ≡ true))
        → Begun mark m v (mark_of (map (mark_in c) (hs ++ y ∷ [])) mark m v)
    by mark m v (inl q) = subst (Begun mark m v) (sym (mark_old c hs y mark m v q)) (old.begun mark m v q)
    by mark m v (inr q) = here mark m v q.0 q.1

    more_case : MarksSoFar a c f nexts us k r0 hs0 t (hs ++ y ∷ [])
    more_case = record {
      extends = extends_trans a b c so.extends bc;
      frame = frame_may f nexts k b c r t (Mark mark0 m0 v0) net Settled bc (may_zero k after may) last so.frame;
      own = own_more c f k (Mark mark0 m0 v0) r t 1 0 net Settled may (inr (own_mark f k mark0 m0 v0 after)) so.own;
      longer = longer_trans r0 r t so.longer (longer_may c r t (Mark mark0 m0 v0) 1 0 net Settled may);
      begun = record {
        there = each_push (λ (x : MarkNet). IsThere c x.net) hs y old.there (may_there c r t (Mark mark0 m0 v0) 1 0 net Settled may);
        one =
            each_push (λ (x : MarkNet). (signal c x.net).width ≡ 1) hs y old.one (may_wide c r t (Mark mark0 m0 v0) 1 0 net Settled may);
        begun = λ mark m v q. by mark m v (or_cases (is_listed hs mark m v) (is_it y mark m v) (sym (listed_more hs y mark m v) ∙ q));
      };
      still = λ mark m v q. listed_more hs y mark m v ∙ or_left (is_listed hs mark m v) (is_it y mark m v) (so.still mark m v q);
    }
      where
        may_zero : (n : ℕ) → 0 < n → MayAdd c r t (Mark mark0 m0 v0) 1 0 net Settled
            → MayAdd c r t (Mark mark0 m0 v0) 1 0 net Settled
        may_zero n l q = q

  -- with a mark more, or none where it needs no more, the marks so far have their registers
  pub marks_more : AddsMark c f nexts us k mark0 m0 v0 r hs t xs → MarksSoFar a c f nexts us k r0 hs0 t xs
  marks_more (inl q) = same_case q
  marks_more (inr q) = subst (MarksSoFar a c f nexts us k r0 hs0 t) (sym q.2) (more_case q.0 q.1 q.3)

  -- the mark is listed now, where it is asked for
  pub marks_listed : AddsMark c f nexts us k mark0 m0 v0 r hs t xs → mark_from f.pipe k mark0 m0 v0 ≡ true → is_listed xs mark0 m0 v0 ≡ true
  marks_listed (inl q) need = subst (λ l. is_listed l mark0 m0 v0 ≡ true) (sym q.1) (q.2 need)
  marks_listed (inr q) need =
      subst (λ l. is_listed l mark0 m0 v0 ≡ true) (sym q.2)
      (listed_more hs (record { mark = mark0; mem = m0; var = v0; net = q.0 }) mark0 m0 v0
      ∙ or_right (is_listed hs mark0 m0 v0) (same_mark mark0 mark0 && ((m0 == m0) && (v0 == v0)))
      (ap₂ (λ x z. x && z) (mark_self mark0) (ap₂ (λ x z. x && z) (eq-eqb m0 m0 refl) (eq-eqb v0 v0 refl))))

  -- what was listed still is
  pub marks_still : AddsMark c f nexts us k mark0 m0 v0 r hs t xs → AreStillListed hs xs
  marks_still (inl q) mark m v h = subst (λ l. is_listed l mark m v ≡ true) (sym q.1) h
  marks_still (inr q) mark m v h =
      let y : MarkNet = record { mark = mark0; mem = m0; var = v0; net = q.0 } in
      subst (λ l. is_listed l mark m v ≡ true) (sym q.2)
      (listed_more hs y mark m v ∙ or_left (is_listed hs mark m v) (is_it y mark m v) h)

-- ---- all that a stage ends with

-- those of these marks that are asked for are listed
abbrev pub AreSeen : Form → ℕ → List MarkNet → List MarkNet → Type 0
AreSeen f k items hs =
    (mark : MarkKind) (m v : ℕ) → mark_from f.pipe k mark m v ≡ true → is_listed items mark m v ≡ true → is_listed hs mark m v ≡ true

-- with a mark more that is listed where it is asked for, all that are asked for are listed
pub seen_more : (f : Form) (k : ℕ) (items hs xs : List MarkNet) (h : MarkNet) → AreStillListed hs xs
    → (mark_from f.pipe k h.mark h.mem h.var ≡ true → is_listed xs h.mark h.mem h.var ≡ true) → AreSeen f k items hs
    → AreSeen f k (items ++ h ∷ []) xs
seen_more f k items hs xs h still new seen mark m v need q =
    at (or_cases (is_listed items mark m v) (is_it h mark m v) (sym (listed_more items h mark m v) ∙ q))
  where
    at : (is_listed items mark m v ≡ true) ⊎ ((is_listed items mark m v ≡ false) × (is_it h mark m v ≡ true)) → is_listed xs mark m v ≡ true
    at (inl z) = still mark m v (seen mark m v need z)
    at (inr z) =
        let i = is_it_same h mark m v z.1 in
        subst (λ n. is_listed xs mark m n ≡ true) i.2
        (subst (λ n. is_listed xs mark n h.var ≡ true) i.1
        (subst (λ n. is_listed xs n h.mem h.var ≡ true) i.0
        (new
        (subst (λ n. mark_from f.pipe k n h.mem h.var ≡ true) (sym i.0)
        (subst (λ n. mark_from f.pipe k mark n h.var ≡ true) (sym i.1) (subst (λ n. mark_from f.pipe k mark m n ≡ true) (sym i.2) need))))))

-- so a location doesn't have what isn't listed there
pub all_seen : (c : Circuit) (f : Form) (k : ℕ) (items hs : List MarkNet) (mark : MarkKind) (m v : ℕ) → AreSeen f k items hs
    → mark_from f.pipe k mark m v ≡ true → is_listed hs mark m v ≡ false → mark_of (map (mark_in c) items) mark m v ≡ zero_bit
all_seen c f k items hs mark m v seen need un = at (is_listed items mark m v) refl
  where
    at : (b : Bool) → is_listed items mark m v ≡ b → mark_of (map (mark_in c) items) mark m v ≡ zero_bit
    at true q = absurd (false≢true (sym un ∙ seen mark m v need q))
    at false q = mark_none c items mark m v q

-- a list with more marks still has all with which a thread may come out of a stage
pub all_marks_more : (p : Rattle.pdl_semantics.specs.Flat.Pipe) (k : ℕ) (u : View) (hs xs : List MarkNet)
    → AreStillListed hs xs → HasAllMarks p k u hs → HasAllMarks p k u xs
all_marks_more p k u hs xs still h mark m v need un = h mark m v need (at (is_listed hs mark m v) refl)
  where
    at : (b : Bool) → is_listed hs mark m v ≡ b → is_listed hs mark m v ≡ false
    at true q = absurd (false≢true (sym un ∙ still mark m v q))
    at false q = q

-- the marks with which a stage begins are such by other views that end alike
pub marks_as : (c : Circuit) (f : Form) (nexts : List Signal) (us vs : ℕ → View) (k : ℕ) (r : StageRegs) (hs : List MarkNet)
    → ((mark : MarkKind) (m v j : ℕ) → j < k → ended_item (vs j) (Mark mark m v) ≡ ended_item (us j) (Mark mark m v))
    → AreMarksBegun c f nexts us k r hs → AreMarksBegun c f nexts vs k r hs
marks_as c f nexts us vs k r hs same h = record {
  there = h.there;
  one = h.one;
  begun = λ mark m v q. by_weaker f nexts r (Mark mark m v) _ (IsSettled f.pipe us k (Mark mark m v)) (IsSettled f.pipe vs k (Mark mark m v))
      (λ z. settled_as f.pipe us vs k (Mark mark m v) (mark_of (map (mark_in c) hs) mark m v) (same mark m v) z) (h.begun mark m v q);
}

-- what is listed on the way from one circuit to the next
pub marks_then : (a b c : Circuit) (f : Form) (nexts : List Signal) (us : ℕ → View) (k : ℕ) (r0 : StageRegs)
    (hs0 : List MarkNet) (r t : StageRegs) (hs xs : List MarkNet)
    → MarksSoFar a b f nexts us k r0 hs0 r hs → Extends b c → IsFrame c f nexts k t → AreOwn f k t → IsLonger r t
    → AreMarksBegun c f nexts us k t xs → AreStillListed hs xs → MarksSoFar a c f nexts us k r0 hs0 t xs
marks_then a b c f nexts us k r0 hs0 r t hs xs so bc frame own longer begun still = record {
  extends = extends_trans a b c so.extends bc;
  frame = frame;
  own = own;
  longer = longer_trans r0 r t so.longer longer;
  begun = begun;
  still = λ mark m v q. still mark m v (so.still mark m v q);
}
