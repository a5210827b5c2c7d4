-- On each path of a source that breaks no rule, each memory is reserved for writing, written and released once, in this order, or not at all.
use Rattle.std.proofs.Common.{◌≡◌, refl, sym, ap, ◌∙◌, subst, ℕ, ◌<◌, ◌≤◌, Bool, true, false, ◌&&◌, ◌||◌, not, List, [], ◌∷◌, ◌++◌, length, cond, if◌then◌else◌, ◌==◌, ◌+◌, ◌⊎◌, inl, inr, ⊎_elim, bytes_eq, count_by, Option, Some, ap₂, arith, eq-eqb, append-nil}
use Rattle.std.proofs.lemmas.Bool.{false≢true, and_parts, and_from, or_left, or_right, or_cases, eqb-true, ne_eqb, leb-false, not-false, not-true, both_ways, false_from_ne_true}
use Rattle.std.proofs.lemmas.List.Folds.{list_any-append}
use Rattle.std.specs.List.{list_any}
use mathlib.Core.Path.{fun_ext}
use Rattle.pdl_semantics.specs.Tree.{Span, Location, R, W, Expr, Variable, Stmt, Separator, CombRead, Bind, SpecCall, DelayedRead, Write, Reserve, Block, Release, If, Call, Verify, SpecCheck, SpecBarrier, Param, Mem, Pipe, Update}
use Rattle.pdl_semantics.specs.Flat
use Rattle.pdl_semantics.specs.Flatten.{Var, var_of, mem_of, flat_expr, is_advisory_mem, is_advised, write_op}
use Rattle.pdl_source_stages.proofs.SiteFacts.{either_read, either_bind}
use Rattle.pdl_rules.specs.Places.{Place, Parameter, Memory, Statement, End, StartClause, Branch}
use Rattle.pdl_rules.specs.Parts.{location_of}
use Rattle.pdl_rules.specs.Locks.{same_location, Hold, Nothing, Reserved, Blocked, Released, after_block, after_place, hold_after, is_held_for, is_unreleased, is_reserve_of, is_write_of, reserves_location, writes_location, leaves_open, most_reservations, lock_size, first_reserved, is_out_of_turn}
use Rattle.pdl_rules.specs.Typed.{is_named, is_memory}
use Rattle.pdl_rules.proofs.EachPlace.{Each, closing}
use Rattle.pdl_rules.proofs.FirstReserves.{first_stays}
use Rattle.pdl_rules.proofs.SingleWrites.{KeepsLocks, AreBacked, any_weaker, any_front, any_last, location_refl, location_sym, held_alike, writes_alike, reserves_alike, reserves_to_write, reserves_some, reserved_if_blocked, written_reserved, blocked_here, weight, count_push, count_cons, count_none, written_once}
use Rattle.pdl_theory_turns.specs.Alone.{answered_op, is_nil, is_among, is_oldest, drop_var, but_last}
use Rattle.pdl_theory_turns.specs.Scans.{Phase, Fresh, after_write, after_reserve, after_release, may_read, may_write, is_new, next_phase, phase_ok, phases_ok, phase_all, is_over}
use Rattle.pdl_theory_turns.proofs.Apart.{Apart, apart_fresh, apart_reserve, apart_write, apart_release, oldest_once, front_among, total, oldest_length, drop_length}
use Rattle.pdl_source_paths.proofs.Numbers.{var_same, var_stays, mem_is}
use Rattle.pdl_source_paths.proofs.PathStatements
use Rattle.pdl_source_paths.proofs.PathStatements.{ops_of, seen_ops}
use Rattle.pdl_source_paths.proofs.Variables.{IsNamed}
use Rattle.pdl_source_paths.proofs.Growth
use Rattle.pdl_source_paths.proofs.Growth.{vars_past, Grown}
use Rattle.pdl_source_paths.proofs.ReadsKept.{held_more}
use Rattle.pdl_word.proofs.Bytes.{bytes_same, bytes_refl}
use Rattle.pdl_source_paths.proofs.Calls.{none_more}
use Rattle.pdl_source_paths.proofs.Standing.{Open, IsUnset, IsSet, IsFirst, is_in, is_last, is_distinct, Stands, among_here, among_self, oldest_or, dropped_among, dropped_other, still_among, front_distinct, drop_distinct, counted_more, moved, wrote_none, held_low, other_mem}

-- A STATEMENT ON m, AND THE OTHERS

module _ (p : Pipe) (vs : List Var) (before : List Place) (m : List ℕ) (there : is_memory p.mems m ≡ true)
    (plain : is_advisory_mem p.mems m ≡ false) (bs : List Branch) where
  -- two locations of one number are one
  same_place : (at : Location) (y : ℕ) (o : Open vs before m y)
      → at.mem.name ≡ m → is_named vs at.address.name ≡ true → y ≡ var_of vs at.address.name → same_location at o.at ≡ true
  same_place at y o same named f =
      and_from _ _ (subst (λ k. bytes_eq at.mem.name k ≡ true) (same ∙ sym o.mem) (bytes_refl at.mem.name))
      (subst (λ k. bytes_eq at.address.name k ≡ true) (var_same vs at.address.name o.at.address.name named o.named (sym f ∙ sym o.number))
      (bytes_refl at.address.name))

  -- and one location has one number
  same_number : (at : Location) (y : ℕ) (o : Open vs before m y) → same_location at o.at ≡ true → y ≡ var_of vs at.address.name
  same_number at y o t = sym o.number ∙ ap (var_of vs) (sym (bytes_same _ _ (and_parts (bytes_eq at.mem.name o.at.mem.name) _ t).1))

  -- a reservation for writing
  reserve_step : (sp : Span) (at : Location) (ph : Phase) → IsNamed p.mems vs at
      → AreBacked p before → KeepsLocks p before (Statement (Reserve sp at W) bs) → Stands p vs before m ph → (b : Bool)
      → bytes_eq at.mem.name m ≡ b
      → ((not b || is_new ph (var_of vs at.address.name)) ≡ true) × Stands p vs (before ++ Statement (Reserve sp at W) bs ∷ []) m
      (cond b (after_reserve ph (var_of vs at.address.name)) ph)
  reserve_step sp at ph n backed keeps s false e = (
    refl,
    subst (λ us. Stands p us (before ++ Statement (Reserve sp at W) bs ∷ []) m ph) (append-nil vs)
        (moved p vs [] before m ph (Statement (Reserve sp at W) bs) e refl
        (λ l f r h i. ap (λ b. is_held_for W (if b then Reserved W else h)) (other_mem at l m e f) ∙ i)
        (λ l f r. ap (λ b. if b then Reserved W else Blocked W) (other_mem at l m e f)) s),
  )
  reserve_step sp at ph n backed keeps s true e = (new, stands)
    where
      x : Place
      x = Statement (Reserve sp at W) bs

      a : ℕ
      a = var_of vs at.address.name

      same : at.mem.name ≡ m
      same = bytes_same _ _ e

      -- it isn't reserved yet
      other : (l : Location) → list_any (reserves_to_write l) before ≡ true → same_location at l ≡ false
      other l r =
          false_from_ne_true _
          (λ t. both_ways _ keeps.l5 (ap (λ f. list_any f before) (fun_ext (reserves_alike at l t)) ∙ any_weaker _ _ (reserves_some l) before r))

      apart_from : (y : ℕ) (o : Open vs before m y) → a ≡ y → ⊥
      apart_from y o f = both_ways _
          (other o.at o.reserved) (same_place at y o same n.1 (sym f))

      new : is_new ph a ≡ true
      new = and_from _ _ (ap not (false_from_ne_true _ (λ t. apart_from a (s.unset a t).place refl)))
          (and_from _ _ (ap not (false_from_ne_true _ (λ t. apart_from a (s.set a t).place refl)))
          (ap not (false_from_ne_true _ (λ t. apart_from a (s.out a t).place refl))))

      -- nor written
      unwritten : list_any (writes_location at) before ≡ false
      unwritten =
          false_from_ne_true _
          (λ t. both_ways _ keeps.l5
          (any_weaker _ _ (reserves_some at) before (written_reserved p before at (subst (λ n. is_advisory_mem p.mems n ≡ false) (sym same) plain) backed t)))

      place : Open vs (before ++ x ∷ []) m a
      place = record {
        at = at;
        mem = same;
        named = n.1;
        number = refl;
        reserved = any_last (reserves_to_write at) before x (location_refl at);
      }

      front : (y : ℕ) → Open vs before m y → Open vs (before ++ x ∷ []) m y
      front y o = record { at = o.at; mem = o.mem; named = o.named; number = o.number; reserved = any_front (reserves_to_write o.at) before x o.reserved }

      more : count_by (is_reserve_of W m) (before ++ x ∷ []) ≡ count_by (is_reserve_of W m) before + 1
      more =
          let here : weight (is_reserve_of W m x) ≡ 1 = ap weight e in
          omega (arith, count_push (is_reserve_of W m) before x)

      low : count_by (is_reserve_of W m) before < most_reservations p.mems W m
      low =
          subst (λ k. count_by (is_reserve_of W k) before < most_reservations p.mems W k) same
          (leb-false (most_reservations p.mems W at.mem.name) (count_by (is_reserve_of W at.mem.name) before) keeps.l4)

      held : (b : Bool) (h : Hold) → is_held_for W h ≡ true → is_held_for W (if b then Reserved W else h) ≡ true
      held true h i = refl
      held false h i = i

      first : (xs : List ℕ) → ph.unwritten ≡ xs → ph.full ≡ [] → ph.gone ≡ [] → (y : ℕ) → is_last y (a ∷ xs) ≡ true → IsFirst vs (before ++ x ∷ []) m y
      first [] i f g y t =
          let none : count_by (is_reserve_of W m) before ≡ 0 = s.count ∙ ap total_of i ∙ ap₂ (λ k l. length {A = ℕ} [] + (length k + length l)) f g in
          record {
            at = at;
            first = first_new before none;
            mem = same;
            named = n.1;
            number = eqb-true a y t;
          }
        where
          total_of : List ℕ → ℕ
          total_of xs = length xs + (length ph.full + length ph.gone)

          first_new : (xs : List Place) → count_by (is_reserve_of W m) xs ≡ 0 → first_reserved m (xs ++ x ∷ []) ≡ Some at
          first_new [] k = rw e refl
          first_new (z ∷ zs) k =
              let c = count_cons (is_reserve_of W m) z zs in
              let here : is_reserve_of W m z
              ≡ false = none_here (is_reserve_of W m z)
              (let w : weight (is_reserve_of W m z) + count_by (is_reserve_of W m) zs ≡ 0 = sym c ∙ k in omega arith) in
              rw here (first_new zs (let w : weight (is_reserve_of W m z) + count_by (is_reserve_of W m) zs ≡ 0 = sym c ∙ k in omega arith))
            where
              none_here : (b : Bool) → weight b ≡ 0 → b ≡ false
              none_here true w = absurd (cc w)
              none_here false w = refl
      first (z ∷ zs) i f g y t =
          let o = s.first f g y (subst (λ l. is_last y l ≡ true) (sym i) t) in
          record { at = o.at; first = first_kept before o.at o.first; mem = o.mem; named = o.named; number = o.number }
        where
          first_kept : (xs : List Place) (l : Location) → first_reserved m xs ≡ Some l → first_reserved m (xs ++ x ∷ []) ≡ Some l
          first_kept [] l k = absurd (cc k)
          first_kept (w ∷ ws) l k = by (is_reserve_of W m w) refl k (first_kept ws l)
            where
              same : is_reserve_of W m w ≡ true → first_reserved m (w ∷ (ws ++ x ∷ [])) ≡ first_reserved m (w ∷ ws)
              same q = rw q refl

              skip : (zs : List Place) → is_reserve_of W m w ≡ false → first_reserved m (w ∷ zs) ≡ first_reserved m zs
              skip zs q = rw q refl

              by : (b : Bool)
                  → is_reserve_of W m w ≡ b → first_reserved m (w ∷ ws) ≡ Some l
                  → (first_reserved m ws ≡ Some l → first_reserved m (ws ++ x ∷ []) ≡ Some l)
                  → first_reserved m (w ∷ (ws ++ x ∷ [])) ≡ Some l
              by true q k r = same q ∙ k
              by false q k r = skip (ws ++ x ∷ []) q ∙ r (sym (skip ws q) ∙ k)

      or_shift : (b c d : Bool) → (c || d) ≡ true → ((b || c) || d) ≡ true
      or_shift true c d h = refl
      or_shift false c d h = h

      stands : Stands p vs (before ++ x ∷ []) m (after_reserve ph a)
      stands = record {
        unset = λ y t. ⊎_elim
            (λ f. subst (IsUnset vs (before ++ x ∷ []) m) f (record {
              place = place;
              unset = none_more (writes_location at) before x unwritten refl;
              held = ap (is_held_for W) (held_more at before x ∙ ap (λ b. if b then Reserved W else hold_after at before) (location_refl at));
            }))
            (λ f. let u = s.unset y f in record {
              place = front y u.place;
              unset = none_more (writes_location u.place.at) before x u.unset refl;
              held = ap (is_held_for W) (held_more u.place.at before x) ∙ held (same_location at u.place.at) _ u.held;
            })
            (among_here y a ph.unwritten t);
        set = λ y t. let u = s.set y t in record {
          place = front y u.place;
          set = any_front (writes_location u.place.at) before x u.set;
          held = held_more u.place.at before x ∙ ap (λ b. if b then Reserved W else hold_after u.place.at before) (other u.place.at u.place.reserved) ∙ u.held;
        };
        out = λ y t. let u = s.out y t in record { place = front y u.place; set = any_front (writes_location u.place.at) before x u.set };
        count = let c = s.count in omega (arith, more);
        few = let c = low in omega (arith, more);
        every = λ l f r. ⊎_elim
            (λ t. let o = s.every l f t in
            (o.0, front o.0 o.1, or_shift (a == o.0) (is_among o.0 ph.unwritten) (is_among o.0 ph.full || is_among o.0 ph.gone) o.2, o.3))
            (λ t. ⊎_elim (λ u. (a, place, or_left (is_among a (a ∷ ph.unwritten)) _ (among_self a ph.unwritten), u)) (λ u. absurd (false≢true u))
            (or_cases (reserves_to_write l x) false t))
            (or_cases (list_any (reserves_to_write l) before) _ (sym (list_any-append (reserves_to_write l) before (x ∷ [])) ∙ r));
        first = first ph.unwritten refl;
        one_open = and_from _ _ (and_parts (not (is_among a ph.unwritten)) _ new).0 s.one_open;
        one_full = s.one_full;
        apart = apart_reserve ph a new s.apart;
      }

  -- a write
  write_step : (sp : Span) (at : Location) (v : Expr) (ph : Phase) → IsNamed p.mems vs at
      → KeepsLocks p before (Statement (Write sp at v) bs) → list_any (writes_location at) before ≡ false → Stands p vs before m ph
      → (b : Bool) → bytes_eq at.mem.name m ≡ b
      → ((not b || may_write ph (var_of vs at.address.name)) ≡ true)
      × Stands p vs (before ++ Statement (Write sp at v) bs ∷ []) m (cond b (after_write ph (var_of vs at.address.name)) ph)
  write_step sp at v ph n keeps unwritten s false e = (
    refl,
    subst (λ us. Stands p us (before ++ Statement (Write sp at v) bs ∷ []) m ph) (append-nil vs)
        (moved p vs [] before m ph (Statement (Write sp at v) bs) refl e (λ l f r h i. i) (λ l f r. refl) s),
  )
  write_step sp at v ph n keeps unwritten s true e = (oldest, stands)
    where
      x : Place
      x = Statement (Write sp at v) bs

      a : ℕ
      a = var_of vs at.address.name

      same : at.mem.name ≡ m
      same = bytes_same _ _ e

      is : hold_after at before ≡ Blocked W
      is = blocked_here p before at (subst (λ n. is_advisory_mem p.mems n ≡ false) (sym same) plain) keeps.l1

      reserved : list_any (reserves_to_write at) before ≡ true
      reserved = reserved_if_blocked at before is

      -- a location with a value is another one
      not_set : (y : ℕ) (o : Open vs before m y) → list_any (writes_location o.at) before ≡ true → a ≡ y → ⊥
      not_set y o t f = both_ways _ unwritten (ap (λ g. list_any g before) (fun_ext (writes_alike at o.at (same_place at y o same n.1 (sym f)))) ∙ t)

      among : is_among a ph.unwritten ≡ true
      among =
          let w = s.every at same reserved in
          let f : w.0 ≡ a = same_number at w.0 w.1 (location_sym w.1.at at w.3) in
          ⊎_elim (λ t. subst (λ y. is_among y ph.unwritten ≡ true) f t)
          (λ t. ⊎_elim (λ u. absurd (not_set w.0 (s.set w.0 u).place (s.set w.0 u).set (sym f)))
          (λ u. absurd (not_set w.0 (s.out w.0 u).place (s.out w.0 u).set (sym f))) (or_cases (is_among w.0 ph.full) _ t))
          (or_cases (is_among w.0 ph.unwritten) _ w.2)

      two : total ph ≤ 2
      two = let f = s.few in let c = s.count in let u = at_most_two (lock_size p.mems m == 1) in omega arith
        where
          at_most_two : (b : Bool) → (if b then 1 else 2) ≤ 2
          at_most_two true = omega arith
          at_most_two false = omega arith

      nothing : (xs : List ℕ) → length xs ≡ 0 → xs ≡ []
      nothing [] h = refl
      nothing (y ∷ ys) h = absurd (cc h)

      -- of two that wait the first one is written first
      second : (y z : ℕ) → ph.unwritten ≡ y ∷ z ∷ [] → (y ≡ a) ⊎ (z ≡ a) → is_oldest a (y ∷ z ∷ []) ≡ true
      second y z u c = and_from _ _ (ap not (ne_eqb y a (λ f. distinct (f ∙ sym z_is)))) (eq-eqb z a z_is)
        where
          full : ph.full ≡ []
          full = nothing ph.full (let w : length ph.unwritten ≡ 2 = ap length u in let t = two in omega arith)

          gone : ph.gone ≡ []
          gone = nothing ph.gone (let w : length ph.unwritten ≡ 2 = ap length u in let t = two in omega arith)

          f : IsFirst vs before m z
          f = s.first full gone z (subst (λ l. is_last z l ≡ true) (sym u) (eq-eqb z z refl))

          z_among : is_among z ph.unwritten ≡ true
          z_among = subst (λ l. is_among z l ≡ true) (sym u) (or_right (y == z) _ (among_self z []))

          distinct : y ≡ z → ⊥
          distinct g =
              both_ways _ (not-true _ (and_parts (not (is_among y (z ∷ []))) _ (subst (λ l. is_distinct l ≡ true) u s.one_open)).0)
              (or_left (z == y) false (eq-eqb z y (sym g)))

          -- the first one has no value
          first_unset : list_any (writes_location f.at) before ≡ false
          first_unset =
              let o = s.unset z z_among in
              ap (λ g. list_any g before) (fun_ext (writes_alike f.at o.place.at (same_place f.at z o.place f.mem f.named (sym f.number)))) ∙ o.unset

          here : same_location f.at at ≡ true
          here = at_first (same_location f.at at) (list_any (writes_location f.at) before) first_unset
              (sym (ap (λ (o : Option Location). is_out_of_turn at before o) (ap (λ k. first_reserved k before) same ∙ f.first)) ∙ keeps.l6)
            where
              at_first : (b c : Bool) → c ≡ false → (not b && not c) ≡ false → b ≡ true
              at_first true c h k = refl
              at_first false true h k = absurd (false≢true (sym h))
              at_first false false h k = absurd (false≢true (sym k))

          z_is : z ≡ a
          z_is = sym f.number ∙ ap (var_of vs) (bytes_same _ _ (and_parts (bytes_eq f.at.mem.name at.mem.name) _ here).1)

      oldest : is_oldest a ph.unwritten ≡ true
      oldest = by ph.unwritten refl among
        where
          by : (xs : List ℕ) → ph.unwritten ≡ xs → is_among a xs ≡ true → is_oldest a xs ≡ true
          by [] u t = absurd (false≢true t)
          by (y ∷ []) u t = ⊎_elim (λ f. eq-eqb y a f) (λ f. absurd (false≢true f)) (among_here a y [] t)
          by (y ∷ z ∷ []) u t =
              second y z u (⊎_elim (λ f. inl f) (λ f. ⊎_elim (λ g. inr g) (λ g. absurd (false≢true g)) (among_here a z [] f)) (among_here a y (z ∷ []) t))
          by (y ∷ z ∷ w ∷ ws) u t = absurd (let l : length ph.unwritten ≡ length (y ∷ z ∷ w ∷ ws) = ap length u in let t = two in omega arith)

      front : (y : ℕ) → Open vs before m y → Open vs (before ++ x ∷ []) m y
      front y o = record { at = o.at; mem = o.mem; named = o.named; number = o.number; reserved = any_front (reserves_to_write o.at) before x o.reserved }

      stands : Stands p vs (before ++ x ∷ []) m (after_write ph a)
      stands = record {
        unset = λ y t. let u = s.unset y (front_among y ph.unwritten t) in record {
          place = front y u.place;
          unset =
              none_more (writes_location u.place.at) before x u.unset
              (false_from_ne_true _
              (λ q. both_ways _ (oldest_once a ph.unwritten oldest) (subst (λ k. is_among k (but_last ph.unwritten) ≡ true) (same_number at y u.place q) t)));
          held = ap (is_held_for W) (held_more u.place.at before x) ∙ u.held;
        };
        set = λ y t. ⊎_elim
            (λ f. subst (IsSet vs (before ++ x ∷ []) m) f (record {
              place = record { at = at; mem = same; named = n.1; number = refl; reserved = any_front (reserves_to_write at) before x reserved };
              set = any_last (writes_location at) before x (location_refl at);
              held = held_more at before x ∙ is;
            }))
            (λ f. let u = s.set y f in record {
              place = front y u.place;
              set = any_front (writes_location u.place.at) before x u.set;
              held = held_more u.place.at before x ∙ u.held;
            })
            (among_here y a ph.full t);
        out = λ y t. let u = s.out y t in record { place = front y u.place; set = any_front (writes_location u.place.at) before x u.set };
        count = counted_more m before x refl ∙ s.count ∙ (let l = oldest_length a ph.unwritten oldest in omega arith);
        few = subst (λ k. k ≤ most_reservations p.mems W m) (sym (counted_more m before x refl)) s.few;
        every = λ l f r. let o = s.every l f (reserved_front l r) in (o.0, front o.0 o.1, still o.0 o.2, o.3);
        first = λ f g y t. absurd (cc f);
        one_open = front_distinct ph.unwritten s.one_open;
        one_full = and_from _ _ (ap not (s.apart a among).0) s.one_full;
        apart = apart_write ph a oldest s.apart;
      }
        where
          reserved_front : (l : Location) → list_any (reserves_to_write l) (before ++ x ∷ []) ≡ true → list_any (reserves_to_write l) before ≡ true
          reserved_front l r =
              ⊎_elim (λ t. t) (λ t. absurd (false≢true t))
              (or_cases (list_any (reserves_to_write l) before) _ (sym (list_any-append (reserves_to_write l) before (x ∷ [])) ∙ r))

          still : (y : ℕ) → is_in ph y ≡ true → is_in (after_write ph a) y ≡ true
          still y t = ⊎_elim
              (λ u. ⊎_elim
              (λ f. or_right (is_among y (but_last ph.unwritten)) _ (or_left (is_among y (a ∷ ph.full)) _ (or_left (a == y) _ (eq-eqb a y f))))
              (λ f. or_left (is_among y (but_last ph.unwritten)) _ f)
              (oldest_or y a ph.unwritten oldest u))
              (λ u. ⊎_elim
              (λ f. or_right (is_among y (but_last ph.unwritten)) _ (or_left (is_among y (a ∷ ph.full)) _ (or_right (a == y) _ f)))
              (λ f. or_right (is_among y (but_last ph.unwritten)) _ (or_right (is_among y (a ∷ ph.full)) _ f))
              (or_cases (is_among y ph.full) _ u))
              (or_cases (is_among y ph.unwritten) _ t)

  -- a release
  release_step : (sp : Span) (at : Location) (ph : Phase) → IsNamed p.mems vs at
      → KeepsLocks p before (Statement (Release sp at) bs) → Stands p vs before m ph → (b : Bool)
      → bytes_eq at.mem.name m ≡ b
      → ((not b || not (is_among (var_of vs at.address.name) ph.unwritten)) ≡ true)
      × Stands p vs (before ++ Statement (Release sp at) bs ∷ []) m (cond b (after_release ph (var_of vs at.address.name)) ph)
  release_step sp at ph n keeps s b e = at_mem b e
    where
      x : Place
      x = Statement (Release sp at) bs

      a : ℕ
      a = var_of vs at.address.name

      -- it lets other locations be
      others : ((l : Location) → l.mem.name ≡ m → list_any (reserves_to_write l) before ≡ true → same_location at l ≡ false)
          → Stands p vs (before ++ x ∷ []) m ph
      others f =
          subst (λ us. Stands p us (before ++ x ∷ []) m ph) (append-nil vs)
          (moved p vs [] before m ph x refl refl
          (λ l g r h i. ap (λ c. is_held_for W (if c then Released else h)) (f l g r) ∙ i)
          (λ l g r. ap (λ c. if c then Released else Blocked W) (f l g r)) s)

      at_mem : (c : Bool) → bytes_eq at.mem.name m ≡ c → ((not c || not (is_among a ph.unwritten)) ≡ true)
          × Stands p vs (before ++ x ∷ []) m (cond c (after_release ph a) ph)
      at_mem false e = (refl, others (λ l g r. other_mem at l m e g))
      at_mem true e = (ap not closed, by (is_among a ph.full) refl)
        where
          same : at.mem.name ≡ m
          same = bytes_same _ _ e

          -- what is held and not written is not released
          closed : is_among a ph.unwritten ≡ false
          closed = false_from_ne_true _ (λ t.
              let o = s.unset a t in
              let j = same_place at a o.place same n.1 refl in
              let h : is_held_for W (hold_after at before) ≡ true = ap (is_held_for W) (held_alike at o.place.at j before) ∙ o.held in
              let c : not (count_by (writes_location at) before == 1) ≡ false =
              ap (λ b. b && not (count_by (writes_location at) before == 1)) (sym h) ∙ keeps.l6 in
              let k : count_by (writes_location at) before ≡ 1 = eqb-true _ 1 (not-false _ c) in
              let z : count_by (writes_location at) before
              ≡ 0 = count_none (writes_location at) before (ap (λ g. list_any g before) (fun_ext (writes_alike at o.place.at j)) ∙ o.unset) in
              absurd (omega arith))

          front : (y : ℕ) → Open vs before m y
              → Open vs (before ++ x ∷ []) m y
          front y o = record { at = o.at; mem = o.mem; named = o.named; number = o.number; reserved = any_front (reserves_to_write o.at) before x o.reserved }

          other : (y : ℕ) (o : Open vs before m y) → (a ≡ y → ⊥) → same_location at o.at ≡ false
          other y o f = false_from_ne_true _ (λ t. f (sym (same_number at y o t)))

          reserved_front : (l : Location) → list_any (reserves_to_write l) (before ++ x ∷ []) ≡ true → list_any (reserves_to_write l) before ≡ true
          reserved_front l r =
              ⊎_elim (λ t. t) (λ t. absurd (false≢true t))
              (or_cases (list_any (reserves_to_write l) before) _ (sym (list_any-append (reserves_to_write l) before (x ∷ [])) ∙ r))

          by : (c : Bool)
              → is_among a ph.full ≡ c
              → Stands p vs (before ++ x ∷ []) m (if c then record { unwritten = ph.unwritten; full = drop_var a ph.full; gone = a ∷ ph.gone } else ph)
          by false t = record {
            unset = λ y u. let o = s.unset y u in record {
              place = front y o.place;
              unset =
                  none_more (writes_location o.place.at) before x o.unset refl;
              held =
                  ap (is_held_for W)
                  (held_more o.place.at before x
                  ∙ ap (λ c. if c then Released else hold_after o.place.at before)
                  (other y o.place (λ f. both_ways _ closed (subst (λ k. is_among k ph.unwritten ≡ true) (sym f) u))))
                  ∙ o.held;
            };
            set = λ y u. let o = s.set y u in record {
              place = front y o.place;
              set = any_front (writes_location o.place.at) before x o.set;
              held =
                  held_more o.place.at before x
                  ∙ ap (λ c. if c then Released else hold_after o.place.at before)
                  (other y o.place (λ f. both_ways _ t (subst (λ k. is_among k ph.full ≡ true) (sym f) u)))
                  ∙ o.held;
            };
            out = λ y u. let o = s.out y u in record { place = front y o.place; set = any_front (writes_location o.place.at) before x o.set };
            count = counted_more m before x refl ∙ s.count;
            few = subst (λ k. k ≤ most_reservations p.mems W m) (sym (counted_more m before x refl)) s.few;
            every = λ l f r. let o = s.every l f (reserved_front l r) in (o.0, front o.0 o.1, o.2, o.3);
            first =
                λ f g y u. let o = s.first f g y u in record {
                  at = o.at;
                  first = first_stays m before x refl
                      ∙ o.first;
                  mem = o.mem;
                  named = o.named;
                  number = o.number;
                };
            one_open = s.one_open;
            one_full = s.one_full;
            apart = s.apart;
          }
          by true t = record {
            unset = λ y u. let o = s.unset y u in record {
              place = front y o.place;
              unset = none_more (writes_location o.place.at) before x o.unset refl;
              held =
                  ap (is_held_for W)
                  (held_more o.place.at before x
                  ∙ ap (λ c. if c then Released else hold_after o.place.at before)
                  (other y o.place (λ f. both_ways _ closed (subst (λ k. is_among k ph.unwritten ≡ true) (sym f) u))))
                  ∙ o.held;
            };
            set = λ y u. let o = s.set y (dropped_among y a ph.full u) in record {
              place = front y o.place;
              set = any_front (writes_location o.place.at) before x o.set;
              held =
                  held_more o.place.at before x
                  ∙ ap (λ c. if c then Released else hold_after o.place.at before) (other y o.place (dropped_other y a ph.full s.one_full u)) ∙ o.held;
            };
            out = λ y u. ⊎_elim
                (λ f. let o = s.set y
                (subst (λ k. is_among k ph.full ≡ true) f t) in record { place = front y o.place; set = any_front (writes_location o.place.at) before x o.set })
                (λ f. let o = s.out y f in record { place = front y o.place; set = any_front (writes_location o.place.at) before x o.set })
                (among_here y a ph.gone u);
            count = counted_more m before x refl ∙ s.count ∙ (let l = drop_length a ph.full t in omega arith);
            few = subst (λ k. k ≤ most_reservations p.mems W m) (sym (counted_more m before x refl)) s.few;
            every = λ l f r. let o = s.every l f (reserved_front l r) in (o.0, front o.0 o.1, still o.0 o.2, o.3);
            first = λ f g y u. absurd (cc g);
            one_open = s.one_open;
            one_full = drop_distinct a ph.full s.one_full;
            apart =
                subst Apart (ap (λ c. if c then record { unwritten = ph.unwritten; full = drop_var a ph.full; gone = a ∷ ph.gone } else ph) t)
                (apart_release ph a s.apart);
          }
            where
              still : (y : ℕ) → is_in ph y ≡ true → (is_among y ph.unwritten || (is_among y (drop_var a ph.full) || is_among y (a ∷ ph.gone))) ≡ true
              still y u = ⊎_elim
                  (λ f. or_left (is_among y ph.unwritten) _ f)
                  (λ f. or_right (is_among y ph.unwritten) _ (⊎_elim
                  (λ g. ⊎_elim (λ h. or_right (is_among y (drop_var a ph.full)) _ (or_left (a == y) _ (eq-eqb a y h)))
                  (λ h. or_left (is_among y (drop_var a ph.full)) _ h) (still_among y a ph.full g))
                  (λ g. or_right (is_among y (drop_var a ph.full)) _ (or_right (a == y) _ g))
                  (or_cases (is_among y ph.full) _ f)))
                  (or_cases (is_among y ph.unwritten) _ u)

-- ALL STATEMENTS

-- a write to m that stands so with some variables stands so with more
pub stands_grown : (p : Pipe) (vs us : List Var) (before : List Place) (m : List ℕ) (ph : Phase) → Grown vs us
    → Stands p vs before m ph → Stands p us before m ph
stands_grown p vs us before m ph g s = subst (λ ws. Stands p ws before m ph) (sym g.1) (record {
  unset = λ x t. let u = s.unset x t in record { place = more x u.place; unset = u.unset; held = u.held };
  set = λ x t. let u = s.set x t in record { place = more x u.place; set = u.set; held = u.held };
  out = λ x t. let u = s.out x t in record { place = more x u.place; set = u.set };
  count = s.count;
  few = s.few;
  every = λ l f r. let o = s.every l f r in (o.0, more o.0 o.1, o.2, o.3);
  first =
      λ f h x t. let o = s.first f h x t in record {
        at = o.at;
        first = o.first;
        mem = o.mem;
        named = list_any-append _ vs g.0
            ∙ or_left (is_named vs o.at.address.name) _ o.named;
        number = var_stays vs g.0 o.at.address.name o.named ∙ o.number;
      };
  one_open = s.one_open;
  one_full = s.one_full;
  apart = s.apart;
})
  where
    more : (x : ℕ) → Open vs before m x → Open (vs ++ g.0) before m x
    more x o =
        record {
          at = o.at;
          mem = o.mem;
          named = list_any-append _ vs g.0 ∙ or_left (is_named vs o.at.address.name) _ o.named;
          number = var_stays vs g.0 o.at.address.name o.named ∙ o.number;
          reserved = o.reserved;
        }

-- nothing stands before the statements
pub stands_first : (p : Pipe) (vs : List Var) (before : List Place) (m : List ℕ)
    → ((f : Place → Bool) → ((a : Param) → f (Parameter a) ≡ false) → ((x : Mem) → f (Memory x) ≡ false) → list_any f before ≡ false)
    → Stands p vs before m Fresh
stands_first p vs before m none = record {
  unset = λ x t. absurd (false≢true t);
  set = λ x t. absurd (false≢true t);
  out = λ x t. absurd (false≢true t);
  count = count_none (is_reserve_of W m) before (none (is_reserve_of W m) (λ a. refl) (λ x. refl));
  few = let c = count_none (is_reserve_of W m) before (none (is_reserve_of W m) (λ a. refl) (λ x. refl)) in omega arith;
  every = λ l f r. absurd (both_ways _ (none (reserves_to_write l) (λ a. refl) (λ x. refl)) r);
  first = λ f g x t. absurd (false≢true t);
  one_open = refl;
  one_full = refl;
  apart = apart_fresh;
}

-- the phase after a list of statements, and whether they pass

-- the phase after these operations
abbrev pub phase_ops : ℕ → Phase → List Flat.Op → Phase
phase_ops m ph [] = ph
phase_ops m ph (op ∷ os) = phase_ops m (next_phase m ph (answered_op op)) os

-- whether the write to m is in order in these operations, from this phase on
abbrev pub phase_oks : ℕ → Phase → List Flat.Op → Bool
phase_oks m ph [] = true
phase_oks m ph (op ∷ os) = phase_ok m ph (answered_op op) && phase_oks m (next_phase m ph (answered_op op)) os

-- the write to m is in order in operations of one stage and the rest where it is in each
pub phases_append : (m k : ℕ) (ph : Phase) (os : List Flat.Op) (rest : List Flat.Stmt)
    → phase_oks m ph os ≡ true → phases_ok m (phase_ops m ph os) rest ≡ true
    → phases_ok m ph (seen_ops k os ++ rest) ≡ true
phases_append m k ph [] rest h i = i
phases_append m k ph (op ∷ os) rest h i =
    let parts = and_parts (phase_ok m ph (answered_op op)) (phase_oks m (next_phase m ph (answered_op op)) os) h in
    and_from _ _ parts.0 (phases_append m k (next_phase m ph (answered_op op)) os rest parts.1 i)

-- the phase of m's write after operations and the rest is that after the rest, begun where they ended
pub phase_append : (m k : ℕ) (ph : Phase) (os : List Flat.Op) (rest : List Flat.Stmt)
    → phase_all m ph (seen_ops k os ++ rest) ≡ phase_all m (phase_ops m ph os) rest
phase_append m k ph [] rest = refl
phase_append m k ph (op ∷ os) rest = phase_append m k (next_phase m ph (answered_op op)) os rest

and_true : (b : Bool) → b ≡ true → (b && true) ≡ true
and_true b e = and_from b true e refl

module _ (p : Pipe) (m : List ℕ) (there : is_memory p.mems m ≡ true) (plain : is_advisory_mem p.mems m ≡ false) (bs : List Branch) where
  -- with the variables that it binds, a statement that touches no location
  bound_next : (vs us : List Var) (before : List Place) (ph : Phase) (x : Place)
      → ((l : Location) (h : Hold) → after_place l h x ≡ h) → is_reserve_of W m x ≡ false → is_write_of m x ≡ false
      → Stands p vs before m ph → Stands p (vs ++ us) (before ++ x ∷ []) m ph
  bound_next vs us before ph x same nor now s =
      moved p vs us before m ph x nor now (λ l f r h i. ap (is_held_for W) (same l h) ∙ i) (λ l f r. same l (Blocked W)) s

  kept_next : (vs : List Var) (before : List Place) (ph : Phase) (x : Place)
      → ((l : Location) (h : Hold) → after_place l h x ≡ h) → is_reserve_of W m x ≡ false → is_write_of m x ≡ false
      → Stands p vs before m ph → Stands p vs (before ++ x ∷ []) m ph
  kept_next vs before ph x same nor now s = subst (λ us. Stands p us (before ++ x ∷ []) m ph) (append-nil vs) (bound_next vs [] before ph x same nor now s)

  -- a statement passes, and the memory stands so after it
  abbrev Goes : List Var → List Place → Phase → Stmt → List Flat.Op → List Var → Type 0
  Goes vs before ph s os us = (phase_oks (mem_of p.mems m) ph os ≡ true) × Stands p us (before ++ Statement s bs ∷ []) m (phase_ops (mem_of p.mems m) ph os)

  read_next : (vs us : List Var) (before : List Place) (ph : Phase) (s : Stmt) (at : Location)
      → ((l : Location) (h : Hold) → after_place l h (Statement s bs) ≡ h) → is_reserve_of W m (Statement s bs) ≡ false
      → is_write_of m (Statement s bs) ≡ false
      → IsNamed p.mems vs at → (bytes_eq at.mem.name m ≡ true → list_any (is_write_of at.mem.name) before ≡ false) → Stands p vs before m ph
      → (((not (is_among (length vs) ph.unwritten) && (not (mem_of p.mems at.mem.name == mem_of p.mems m) || may_read ph)) && true) ≡ true)
      × Stands p (vs ++ us) (before ++ Statement s bs ∷ []) m ph
  read_next vs us before ph s at same nor now named l3 i =
      (and_true _ (and_from _ _ (held_low p vs before m ph i) (may (bytes_eq at.mem.name m) refl)), bound_next vs us before ph (Statement s bs) same nor now i)
    where
      may : (b : Bool) → bytes_eq at.mem.name m ≡ b → (not (mem_of p.mems at.mem.name == mem_of p.mems m) || may_read ph) ≡ true
      may true f =
          or_right (not (mem_of p.mems at.mem.name == mem_of p.mems m)) _
          (wrote_none p vs before m ph i (subst (λ k. list_any (is_write_of k) before ≡ false) (bytes_same _ _ f) (l3 f)))
      may false f = or_left _ (may_read ph) (ap not (mem_is p.mems at.mem.name m named.0 there ∙ f))

  if_next : (vs : List Var) (before : List Place) (ph : Phase) (sp : Span) (s : Stmt) (e : Expr)
      → ((l : Location) (h : Hold) → after_place l h (Statement s bs) ≡ h) → is_reserve_of W m (Statement s bs) ≡ false
      → is_write_of m (Statement s bs) ≡ false → Stands p vs before m ph
      → Goes vs before ph s (PathStatements.if_ops vs e) (Growth.if_past vs e)
  if_next vs before ph sp s (Variable y) same nor now i = (refl, kept_next vs before ph (Statement s bs) same nor now i)
  if_next vs before ph sp s _ same nor now i = (and_true _ (held_low p vs before m ph i), bound_next vs _ before ph (Statement s bs) same nor now i)

  -- a statement that keeps the rules of locks passes, and the write to m stands with it as its operations say
  pub stands_next : (vs : List Var) (before xs : List Place) (ph : Phase) (s : Stmt)
      → ((at : Location) → location_of s ≡ Some at → IsNamed p.mems vs at) → AreBacked p before
      → Each (KeepsLocks p) before (Statement s bs ∷ (xs ++ closing p)) → Stands p vs before m ph
      → Goes vs before ph s (ops_of p.mems vs s) (vars_past p.mems vs s)
  stands_next vs before xs ph (Separator sp) h b each i = (refl, kept_next vs before ph (Statement (Separator sp) bs) (λ l g. refl) refl refl i)
  stands_next vs before xs ph (CombRead sp x at) h b each i =
      either_read (λ op. Goes vs before ph (CombRead sp x at) (op ∷ []) (vars_past p.mems vs (CombRead sp x at))) (is_advisory_mem p.mems at.mem.name)
      (length vs) (mem_of p.mems at.mem.name) (var_of vs at.address.name)
      (refl, bound_next vs _ before ph (Statement (CombRead sp x at) bs) (λ l g. refl) refl refl i)
      (read_next vs _ before ph (CombRead sp x at) at (λ l g. refl) refl refl (h at refl)
      (λ f. sym (ap (λ a. not a && list_any (is_write_of at.mem.name) before) (subst (λ n. is_advisory_mem p.mems n ≡ false) (sym (bytes_same _ _ f)) plain))
      ∙ each.0.l3) i)
  stands_next vs before xs ph (DelayedRead sp x at) h b each i =
      read_next vs _ before ph (DelayedRead sp x at) at (λ l g. refl) refl refl (h at refl) (λ f. each.0.l3) i
  stands_next vs before xs ph (Bind sp x v) h b each i =
      either_bind (λ op. Goes vs before ph (Bind sp x v) (op ∷ []) (vars_past p.mems vs (Bind sp x v))) (is_advised vs v) (length vs) (flat_expr vs v)
      (refl, bound_next vs _ before ph (Statement (Bind sp x v) bs) (λ l h. refl) refl refl i)
      (and_true _ (held_low p vs before m ph i), bound_next vs _ before ph (Statement (Bind sp x v) bs) (λ l h. refl) refl refl i)
  stands_next vs before xs ph (If sp e when otherwise) h b each i = if_next vs before ph sp (If sp e when otherwise) e (λ l g. refl) refl refl i
  stands_next vs before xs ph (SpecCall sp g args) h b each i = (refl, kept_next vs before ph (Statement (SpecCall sp g args) bs) (λ l g. refl) refl refl i)
  stands_next vs before xs ph (Write sp at v) h b each i = go (is_advisory_mem p.mems at.mem.name) refl
    where
      go : (k : Bool)
          → is_advisory_mem p.mems at.mem.name ≡ k
          → Goes vs before ph (Write sp at v) (write_op k (mem_of p.mems at.mem.name) (var_of vs at.address.name) (flat_expr vs v) ∷ []) vs
      go true a = (
        refl,
        kept_next vs before ph (Statement (Write sp at v) bs) (λ l g. refl) refl
            (false_from_ne_true _ (λ t. both_ways _ plain (subst (λ n. is_advisory_mem p.mems n ≡ true) (bytes_same _ _ t) a))) i,
      )
      go false a =
          let named = h at refl in
          subst
          (λ c. (((not c || may_write ph (var_of vs at.address.name)) && true) ≡ true)
          × Stands p vs (before ++ Statement (Write sp at v) bs ∷ []) m (cond c (after_write ph (var_of vs at.address.name)) ph))
          (sym (mem_is p.mems at.mem.name m named.0 there))
          (let step = write_step p vs before m there plain bs sp at v ph named each.0
          (written_once p sp at v bs before xs (StartClause p.start ∷ []) p.end a each) i
          (bytes_eq at.mem.name m) refl in
          (and_true _ step.0, step.1))
  stands_next vs before xs ph (Reserve sp at R) h b each i = (
    refl,
    subst (λ us. Stands p us (before ++ Statement (Reserve sp at R) bs ∷ []) m ph) (append-nil vs)
        (moved p vs [] before m ph (Statement (Reserve sp at R) bs) refl refl
        (λ l f g h i. ap (λ b. is_held_for W (if b then Reserved R else h)) (not_again l g) ∙ i)
        (λ l f g. ap (λ b. if b then Reserved R else Blocked W) (not_again l g)) i),
  )
    where
      not_again : (l : Location) → list_any (reserves_to_write l) before ≡ true → same_location at l ≡ false
      not_again l g =
          false_from_ne_true _
          (λ t. both_ways _ each.0.l5 (ap (λ f. list_any f before) (fun_ext (reserves_alike at l t)) ∙ any_weaker _ _ (reserves_some l) before g))
  stands_next vs before xs ph (Reserve sp at W) h b each i =
      let named = h at refl in
      subst
      (λ c. (((not c || is_new ph (var_of vs at.address.name)) && true) ≡ true)
      × Stands p vs (before ++ Statement (Reserve sp at W) bs ∷ []) m (cond c (after_reserve ph (var_of vs at.address.name)) ph))
      (sym (mem_is p.mems at.mem.name m named.0 there))
      (let step = reserve_step p vs before m there plain bs sp at ph named b each.0 i (bytes_eq at.mem.name m) refl in (and_true _ step.0, step.1))
  stands_next vs before xs ph (Block sp at) h b each i = (
    refl,
    subst (λ us. Stands p us (before ++ Statement (Block sp at) bs ∷ []) m ph) (append-nil vs)
        (moved p vs [] before m ph (Statement (Block sp at) bs) refl refl (λ l f g h i. blocks (same_location at l) h i)
        (λ l f g. stays (same_location at l)) i),
  )
    where
      blocks : (b : Bool) (h : Hold) → is_held_for W h ≡ true → is_held_for W (if b then after_block h else h) ≡ true
      blocks true Nothing i = absurd (false≢true i)
      blocks true (Reserved k) i = i
      blocks true (Blocked k) i = i
      blocks true Released i = absurd (false≢true i)
      blocks false h i = i

      stays : (b : Bool) → (if b then Blocked W else Blocked W) ≡ Blocked W
      stays true = refl
      stays false = refl
  stands_next vs before xs ph (Release sp at) h b each i =
      let named = h at refl in
      subst
      (λ c. (((not c || not (is_among (var_of vs at.address.name) ph.unwritten)) && true) ≡ true)
      × Stands p vs (before ++ Statement (Release sp at) bs ∷ []) m (cond c (after_release ph (var_of vs at.address.name)) ph))
      (sym (mem_is p.mems at.mem.name m named.0 there))
      (let step = release_step p vs before m there plain bs sp at ph named each.0 i (bytes_eq at.mem.name m) refl in (and_true _ step.0, step.1))
  stands_next vs before xs ph (Call sp args) h b each i = (refl, kept_next vs before ph (Statement (Call sp args) bs) (λ l h. refl) refl refl i)
  stands_next vs before xs ph (Verify sp g args) h b each i = (refl, kept_next vs before ph (Statement (Verify sp g args) bs) (λ l h. refl) refl refl i)
  stands_next vs before xs ph (Update sp g args) h b each i = (refl, kept_next vs before ph (Statement (Update sp g args) bs) (λ l h. refl) refl refl i)
  stands_next vs before xs ph (SpecCheck sp) h b each i = (refl, kept_next vs before ph (Statement (SpecCheck sp) bs) (λ l h. refl) refl refl i)
  stands_next vs before xs ph (SpecBarrier sp) h b each i = (refl, kept_next vs before ph (Statement (SpecBarrier sp) bs) (λ l h. refl) refl refl i)

  -- at the end nothing is left open
  left_open : (before : List Place) (l : Location) → is_unreleased (hold_after l before) ≡ true → (x : Place)
      → reserves_location l x ≡ true → leaves_open before x ≡ true
  left_open before l e (Statement (Reserve sp at k) bs) f = ap is_unreleased (held_alike at l f before) ∙ e
  left_open before l e _ f = absurd (false≢true f)

  write_open : (h : Hold) → is_held_for W h ≡ true → is_unreleased h ≡ true
  write_open Nothing e = absurd (false≢true e)
  write_open (Reserved k) e = refl
  write_open (Blocked k) e = refl
  write_open Released e = absurd (false≢true e)

  -- at the end of the body the write to m isn't begun or is done
  pub ends_over : (vs : List Var) (before : List Place) (ph : Phase) → KeepsLocks p before (End p.end) → Stands p vs before m ph → is_over ph ≡ true
  ends_over vs before ph keeps s = and_from _ _
      (nil ph.unwritten (λ x t. let u = s.unset x t in both_ways _ keeps.l7
      (any_weaker _ _ (left_open before u.place.at (write_open _ u.held)) before (any_weaker _ _ (reserves_some u.place.at) before u.place.reserved))))
      (nil ph.full (λ x t. let u = s.set x t in both_ways _ keeps.l7
      (any_weaker _ _ (left_open before u.place.at (ap is_unreleased u.held)) before (any_weaker _ _ (reserves_some u.place.at) before u.place.reserved))))
    where
      nil : (xs : List ℕ) → ((x : ℕ) → is_among x xs ≡ true → ⊥) → is_nil xs ≡ true
      nil [] f = refl
      nil (x ∷ xs) f = absurd (f x (among_self x xs))
