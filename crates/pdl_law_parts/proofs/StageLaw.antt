-- The signals of a stage say what the stage's thread does, as long as the locks let it move.
use Rattle.std.proofs.Common.{◌≡◌, ℕ, Bool, true, false, ◌&&◌, List, [], ◌∷◌, length, refl, sym, ap, ap₂, ◌∙◌, subst, arith, cond, ◌+◌, le-leb, ◌<◌, ◌≤◌, append-nil, ⊎_elim}
use Rattle.std.specs.Prelude.{Some, ◌==◌, nat_le, if◌then◌else◌}
use Rattle.std.proofs.lemmas.Bool.{or_left, or_right, eqb-true, cases_lt}
use Rattle.pdl_word.proofs.Bools.{by_bool}
use Rattle.std.proofs.Common.{[]}
use Rattle.pdl_semantics.specs.Flat.{Stmt, Pipe, all_hold}
use Rattle.pdl_semantics.specs.Stages.{in_stage, mem_at, reserve_stage, commit_stage, list_any, is_verify}
use Rattle.pdl_semantics.specs.SecondWrites.{reserves_twice}
use Rattle.pdl_semantics.specs.Sound.{entries_by}
use Rattle.pdl_semantics.specs.Machine as machine
use Rattle.pdl_semantics.specs.Machine.{Thread, Deeds, reserves_of, deeds_after, deeds_after_all, word_for, with_kept, deeds, held_before}
use Rattle.pdl_net.specs.Circuit.{Circuit, State}
use Rattle.pdl_net.specs.Signal.{Signal}
use Rattle.pdl_net.specs.Well.{Suits}
use Rattle.pdl_lockapi.specs.Laws.{RoomLaw, holds_ticket}
use Rattle.pdl_lockapi.specs.Second.{Room2Law}
use Rattle.pdl_lockapi.specs.Forget.{as_lock, has_place}
use Rattle.pdl_lockapi.proofs.Places.{own_none}
use Rattle.pdl_machine_facts.specs.Slots.{here}
use Rattle.pdl_machine_facts.specs.Use.{before_stage, AreFine}
use Rattle.pdl_law_parts.proofs.AnsweredThreads.{stood}
use Rattle.pdl_law_parts.specs.declared.Mark.{Mark}
use Rattle.pdl_law_parts.specs.declared.Mark.TheVariants.{Late}
use Rattle.pdl_law_parts.specs.Lives.{row_uses, asks_mark, lives_from, mark_from, verifies_from}
use Rattle.pdl_law_parts.specs.Walk.{Locks, Put, Birth, Walk, is_locked, IsFresh, walk_after, AreRows}
use Rattle.pdl_law_parts.specs.Rows.{HasRow, HaveRows}
use Rattle.pdl_law_parts.specs.Advice.{advises_var, is_advised_in, row_plainly, IsAdvisedApart, AreAdvised}
use Rattle.pdl_law_parts.specs.Served.{IsServed}
use Rattle.pdl_law_parts.proofs.Reservations.{reserves_grow}
use Rattle.pdl_word.specs.Each.{Each}
use Rattle.pdl_law_parts.specs.Views.{View}
use Rattle.pdl_law_parts.specs.Stands.{AddressesFit, AreBits, AreShort, TellsLate, AreLate, StandsFor, Follows, reserved_in, written_in, let_in, child_in, asked_in, advised_in, IsEnv, IsHolding, IsGuess}
use Rattle.pdl_law_parts.proofs.Signals.{one_is, zero_is}
use Rattle.pdl_law_parts.proofs.StageLooks.{plain_is, lock_there}
use Rattle.pdl_law_parts.proofs.StageRow.{IsLive, IsAround, MayReserve, done}
use Rattle.pdl_law_parts.proofs.StageStep.{follows_row}
use Rattle.pdl_semantics.specs.PendingLists.{count_older}
use Rattle.pdl_semantics.proofs.Facts.{kept_long}

-- LIVE ROWS

-- each of these rows stands in stage k, and what it uses lives from there on
abbrev pub AllLive : Pipe → ℕ → List Stmt → Type 0
AllLive p k [] = Unit {0}
AllLive p k (x ∷ xs) = (IsLive p k x × (x.stage ≡ k)) × AllLive p k xs

live_from : (p : Pipe) (k : ℕ) (xs : List Stmt) → Each (λ (x : Stmt). HasRow p x.op) xs
    → Each (λ (x : Stmt). (y : ℕ) → row_plainly x y ≡ true → is_advised_in p y ≡ false) xs
    → ((y : ℕ) → list_any (λ (r : Stmt). advises_var r.op y) xs ≡ true → is_advised_in p y ≡ true)
    → (list_any (λ (r : Stmt). nat_le k r.stage && is_verify r.op) xs ≡ true → verifies_from p k ≡ true)
    → ((y : ℕ) → list_any (λ (r : Stmt). nat_le k r.stage && row_uses r y) xs ≡ true → lives_from p k y ≡ true)
    → ((mark : Mark) (m a : ℕ) → list_any (λ (r : Stmt). nat_le k r.stage && asks_mark mark r.op m a) xs ≡ true → mark_from p k mark m a ≡ true)
    → AllLive p k (in_stage k xs)
live_from p k [] each plain a v f g = tt
live_from p k (x ∷ xs) each plain a v f g =
    at (x.stage == k) refl
    (live_from p k xs each.1 plain.1 (λ y e. a y (or_right (advises_var x.op y) _ e)) (λ e. v (or_right (nat_le k x.stage && is_verify x.op) _ e))
    (λ y e. f y (or_right (nat_le k x.stage && row_uses x y) _ e))
    (λ mark m a e. g mark m a (or_right (nat_le k x.stage && asks_mark mark x.op m a) _ e)))
  where
    at : (b : Bool) → (x.stage == k) ≡ b → AllLive p k (in_stage k xs) → AllLive p k (cond b (x ∷ in_stage k xs) (in_stage k xs))
    at false e rest = rest
    at true e rest =
        let same : x.stage ≡ k = eqb-true x.stage k e in
        let low : nat_le k x.stage ≡ true = le-leb k x.stage (omega (arith, same)) in (
          (
            record {
              vars = λ y u. f y (or_left (nat_le k x.stage && row_uses x y) _ (ap₂ (λ a b. a && b) low u));
              marks = λ mark m a u. g mark m a (or_left (nat_le k x.stage && asks_mark mark x.op m a) _ (ap₂ (λ a b. a && b) low u));
              verify = λ u. v (or_left (nat_le k x.stage && is_verify x.op) _ (ap₂ (λ a b. a && b) low u));
              row = each.0;
              plain = plain.0;
              advised = λ y u. a y (or_left (advises_var x.op y) _ u);
            },
            same,
          ),
          rest,
        )

live_rows : (p : Pipe) (k : ℕ) → HaveRows p → IsAdvisedApart p → AllLive p k (in_stage k p.stmts)
live_rows p k all apart = live_from p k p.stmts all apart.rows (λ y e. e) (λ e. e) (λ y e. or_left _ _ e) (λ mark m a e. e)

-- ALL ROWS

module _ (c : Circuit) (p : Pipe) (ls : Locks) (vs : ℕ → View) (s : State) (st : machine.State) (k thread : ℕ) (around : IsAround c p ls vs s st k thread) where
  follows_all : (xs : List Stmt) (w end : Walk) (d : Deeds) → AllLive p k xs → AreRows c p ls (vs k).tickets xs w end
      → AreFine p st thread xs d → MayReserve p st thread (deeds_after_all (word_for st thread) xs d) → Follows p k s st thread w d
      → Follows p k s st thread end (deeds_after_all (word_for st thread) xs d)
  follows_all [] w end d live rows fine may q = subst (λ (x : Walk). Follows p k s st thread x d) (sym rows) q
  follows_all (x ∷ xs) w end d live rows fine may q =
      follows_all xs (walk_after x.op rows.0 ls w) end
      (if all_hold x.guards d.env then deeds_after (word_for st thread) x.op d else d) live.1 rows.2 fine.1 may
      (follows_row c p ls vs s st k thread around x rows.0 w d live.0.0 rows.1 live.0.1 fine.0 sooner q)
    where
      grow : (m : ℕ) → reserves_of m (done st thread (all_hold x.guards d.env) x.op d).reserves
          ≤ reserves_of m (deeds_after_all (word_for st thread) (x ∷ xs) d).reserves
      grow m = reserves_grow (word_for st thread) m xs (done st thread (all_hold x.guards d.env) x.op d)

      sooner : MayReserve p st thread (done st thread (all_hold x.guards d.env) x.op d)
      sooner = record {
        few = λ m e. let i = grow m in let j = may.few m e in omega (arith, i, j);
        fresh = λ m e o. may.fresh m e (let i = grow m in omega (arith, i, o));
      }

-- THE WHOLE STAGE

module _ (c : Circuit) (p : Pipe) (ls : Locks) (vs : ℕ → View) (s : State) (st : machine.State) (bits : List Bool) (suits : Suits c s)
    (kind : (m : ℕ) → is_locked p m ≡ true → (mem_at p m).lock ≡ as_lock (ls.kind m) (ls.size m))
    (room : (m : ℕ) → is_locked p m ≡ true → RoomLaw (ls.stands m) (ls.size m) (ls.room m))
    (room2 : (m : ℕ) → is_locked p m ≡ true → Room2Law (ls.stands m) (ls.size m) (ls.room2 m))
    (twice : (m : ℕ) → m < length p.mems → ls.twice m ≡ reserves_twice m p.stmts)
    (stands : StandsFor p ls vs s st) (used : IsServed p st bits) (all : HaveRows p) (apart : IsAdvisedApart p) where
  around_of : (k : ℕ) (t : Thread) → here p st bits k ≡ Some t → IsAround c p ls vs s st k t.number
  around_of k t h = record {
    suits = suits;
    kind = kind;
    room = room;
    room2 = room2;
    twice = twice;
    ordered = used.in_use.ordered;
    unlocked = λ m e. used.in_use.plain m (plain_is p m e);
    words = stands.words;
    locks = stands.locks;
    tickets =
        λ m e low.
        (let u = stood p st bits k t h in
        subst
        (λ n. holds_ticket (ls.bits m) ((vs k).tickets m) s ((stands.locks m e).base + count_older n (machine.lock_of st m))) u.number
        ((stands.locks m e).tickets k u.thread u.slot low));
  }

  -- the marks with which a thread begins its stage tell which locations are late: up to the stage of the reserves it has nothing pending
  begun_late : (k : ℕ) (t : Thread) → here p st bits k ≡ Some t → (m : ℕ) → m < length p.mems → reserves_twice m p.stmts ≡ true → k ≤ commit_stage p m
      → AreLate p k s (vs k).begun.marks t.number m (entries_by t.number (machine.lock_of st m))
  begun_late k t h m low two early y mark = by_bool (is_locked p m) _ locked plain
    where
      none : entries_by t.number (machine.lock_of st m) ≡ [] → TellsLate s ((vs k).begun.marks Late m y) t.number y (entries_by t.number (machine.lock_of st m))
      none e there once = absurd (cc (sym there ∙ ap (has_place t.number y) e))

      plain : is_locked p m ≡ false → TellsLate s ((vs k).begun.marks Late m y) t.number y (entries_by t.number (machine.lock_of st m))
      plain e = none (ap (entries_by t.number) (used.in_use.plain m (plain_is p m e)))

      locked : is_locked p m ≡ true → TellsLate s ((vs k).begun.marks Late m y) t.number y (entries_by t.number (machine.lock_of st m))
      locked e =
          let u = stood p st bits k t h in
          ⊎_elim
          (λ (l : reserve_stage p m < k). subst
          (λ n. TellsLate s ((vs k).begun.marks Late m y) n y (entries_by n (machine.lock_of st m))) u.number
          ((stands.locks m e).late (twice m low ∙ two) k u.thread u.slot l early y mark))
          (λ (l : k ≤ reserve_stage p m). none (own_none t.number (machine.lock_of st m)
          (subst (λ n. count_older n (machine.lock_of st m) ≡ length (machine.lock_of st m)) u.number (used.in_use.unreserved k u.thread m u.slot l))))
          (cases_lt (reserve_stage p m) k)

  -- after all rows of a stage the walk tells whether the locks let its thread move, and as long as they do what it does
  pub stage_follows : (k : ℕ) (t : Thread) → AreRows c p ls (vs k).tickets (in_stage k p.stmts) (vs k).begun (vs k).ended
      → IsFresh (vs k).begun
      → length (vs k).begun.guess ≡ length p.start
      → IsEnv p k s (vs k).begun.vars (with_kept t.advice (with_kept t.kept t.env)) → here p st bits k ≡ Some t → Follows p k s st t.number (vs k).ended (deeds p st k t)
  stage_follows k t rows fresh guess_long env h =
      let u = stood p st bits k t h in
      follows_all c p ls vs s st k t.number (around_of k t h) (in_stage k p.stmts)
      (vs k).begun (vs k).ended (before_stage p k t) (live_rows p k all apart) rows (used.in_use.fine k t h)
      (record { few = λ m e. used.most k t m h (lock_there p m e); fresh = λ m e. used.fresh k t m h (lock_there p m e) })
      (record {
        ready = ap (λ (f : Signal). f.value s) fresh.ready ∙ one_is s;
        so = λ z. record {
          long = kept_long t.kept t.env ∙ ap length (sym u.env) ∙ stands.long k u.thread u.slot;
          env = env;
          advice = subst (AreAdvised p) u.advice (stands.advice k u.thread u.slot);
          advises = sym (ap (advised_in s) fresh.advises);
          held = subst (λ e. IsHolding p k s (vs k).begun.marks (held_before k e p.stmts [])) u.env (stands.held k u.thread u.slot);
          reserves = sym (ap (reserved_in s) fresh.reserves);
          fits = subst (AddressesFit s) (sym fresh.reserves) tt;
          writes = sym (ap (written_in s) fresh.puts);
          bits = subst (λ (xs : List Put). AreBits s xs) (sym fresh.puts) tt;
          releases = sym (ap (let_in s) fresh.lettings);
          child = sym (ap (child_in s) fresh.births);
          short = subst (λ (bs : List Birth). AreShort p bs) (sym fresh.births) tt;
          asks = sym (ap (asked_in s) fresh.asks);
          guess_long = guess_long;
          guess = λ z. subst (λ g. IsGuess p k s (vs k).begun.guess g) u.guess (stands.guess k u.thread u.slot);
          fails = ap (λ (f : Signal). f.value s) fresh.fails ∙ zero_is s;
          barrier = ap (λ (f : Signal). f.value s) fresh.barrier ∙ zero_is s;
        };
        late = λ z m low two early.
            subst (λ es. AreLate p k s (vs k).begun.marks t.number m es) (sym (append-nil (entries_by t.number (machine.lock_of st m))))
            (begun_late k t h m low two early);
      })
