-- A delayed memory's port and the machine's request: what is outstanding, and for whom.
use Rattle.std.proofs.Common.{◌≡◌, refl, sym, ap, ap₂, ◌∙◌, subst, ℕ, ◌<◌, inl, inr, Bool, true, false, ◌&&◌, List, [], ◌∷◌, length, Option, Some, None, arith, ◌==◌, eq-eqb}
use Rattle.std.specs.Prelude.{if◌then◌else◌, slice_index, ⊤}
use Rattle.std.proofs.lemmas.Bool.{eqb-true}
use Rattle.pdl_semantics.specs.Flat.{Pipe}
use Rattle.pdl_semantics.specs.Stages.{stage_at, list_any}
use Rattle.pdl_semantics.specs.Machine as machine
use Rattle.pdl_semantics.specs.Machine.{Ask, Awaited, Thread, NoRequest, Owned, Orphan, State, request_of, is_answered, answered_reads, with_answers, with_kept, deeds}
use Rattle.pdl_semantics.specs.Moves.{Act, is_free, is_empty}
use Rattle.pdl_semantics.specs.Cycle.{is_outstanding}
use Rattle.pdl_machine_facts.specs.Slots.{LeadsOn, slot, with_now, here, later_acts, stage_moves}
use Rattle.pdl_machine_facts.specs.Cycle.{IsByStages}
use Rattle.pdl_port.specs.Port as port
use Rattle.pdl_port.specs.Port.{PortState, PortAct, Idle, owns}
use Rattle.pdl_machine_inflight.specs.Readings.{Reading, reading, places, place_at, place_to, Reads}
use Rattle.pdl_machine_inflight.specs.InFlight.{Some-of, Awaits, IsAwaited, InFlight}
use Rattle.pdl_machine_inflight.proofs.ReadingFacts.{place_leads}
use Rattle.pdl_machine_inflight.proofs.LaterActs.{none_later, some_later}
use Rattle.pdl_machine_inflight.proofs.Squashes.{stood_in}
use Rattle.pdl_machine_inflight.proofs.Answers.{word_asked, all_in, bound}
use Rattle.pdl_word.specs.Each.{Each}
use Rattle.pdl_semantics.proofs.Facts.{kept_append, kept_long}

-- THE SAME REQUEST

-- the thread of this number stands in a place
pub record StandsAt (p : Pipe) (st : State) (r : Reading) (n i : ℕ) : Type 0 where
  pub low : i < length (places p r)
  pub thread : Thread
  pub slot : slot st (place_at p r i) ≡ Some thread
  pub number : thread.number ≡ n

-- both have none, both have an orphan, or both have one, and its owner stands in the port's place
abbrev pub SameRequest : Pipe → State → Reading → machine.Request → PortState → Type 0
SameRequest p st r NoRequest Idle = ⊤
SameRequest p st r NoRequest (port.Owned i) = ⊥
SameRequest p st r NoRequest port.Orphan = ⊥
SameRequest p st r (Owned number a) Idle = ⊥
SameRequest p st r (Owned number a) (port.Owned i) = StandsAt p st r number i
SameRequest p st r (Owned number a) port.Orphan = ⊥
SameRequest p st r (Orphan a) Idle = ⊥
SameRequest p st r (Orphan a) (port.Owned i) = ⊥
SameRequest p st r (Orphan a) port.Orphan = ⊤

-- a port that agrees with the machine's request
abbrev pub SamePort : Pipe → State → ℕ → Reading → PortState → Type 0
SamePort p st m r x = SameRequest p st r (request_of st m) x

-- the reply to a memory's request
abbrev pub reply_bit : Pipe → State → List Bool → ℕ → Bool
reply_bit p st bits m = is_outstanding (request_of st m) && is_answered p bits m

-- whether a thread asks a memory, and the place into which it goes
abbrev pub asks_of : ℕ → List Ask → Bool
asks_of m qs = list_any (λ (q : Ask). q.mem == m) qs

-- the thread of a reading stage moves, asks the memory, and goes into the place of this number
abbrev pub asked_at : Pipe → State → ℕ → Reading → Bool → Option Thread → ℕ → Bool
asked_at p st m r false o i = false
asked_at p st m r true None i = false
asked_at p st m r true (Some t) i = asks_of m (deeds p st r.stage t).asks && (place_to (stage_at p r.stage).next (deeds p st r.stage t).env == i)

-- what a cycle does to a port, where these places' threads are removed
abbrev pub port_act : Pipe → State → List Bool → ℕ → Reading → (ℕ → Bool) → PortAct
port_act p st bits m r removed = record {
  reply = reply_bit p st bits m;
  moves = λ i. stage_moves p st bits (place_at p r i);
  removed = removed;
  asked = asked_at p st m r (stage_moves p st bits r.stage) (here p st bits r.stage);
}

-- one of some elements, with what each has
pub each_some : {A : Type 0} (P Q : A → Type 0) (xs : List A) → Each P xs → Some-of Q xs → (y : A) × P y × Q y
each_some P Q [] h i = absurd i
each_some P Q (y ∷ ys) h (inl i) = (y, h.0, i)
each_some P Q (y ∷ ys) h (inr i) = each_some P Q ys h.1 i

module _ (p : Pipe) (reads : Reads p) (leads : LeadsOn p) (st : State) (bits : List Bool) (flight : InFlight p st)
    (by : IsByStages p st bits) (m : ℕ) (r : Reading) (is : reading p m ≡ Some r) (r_low : r.stage < length p.stages)
    (x : PortState) (same : SamePort p st m r x) where
  -- PLACES

  -- each place of the delayed read is a stage of the pipe after the reading one
  pub place_up : (i : ℕ) → i < length (places p r) → (r.stage < place_at p r i) × (place_at p r i < length p.stages)
  place_up i l = let z = place_leads (stage_at p r.stage).next i l in leads.up r.stage (place_at p r i) z.0 r_low z.1

  -- the owner of a request stands in its place, and awaits it
  owner_awaits : (number a i : ℕ) → request_of st m ≡ Owned number a → (h : StandsAt p st r number i) → Awaits h.thread m
  owner_awaits number a i e h =
      let o = flight.owner m number a e in
      let k : o.0 ≡ place_at p r i = flight.same o.0 (place_at p r i) o.1 h.thread o.2 h.slot (o.3 ∙ sym h.number) in
      subst (λ (t : Thread). Awaits t m) (some_is (sym o.2 ∙ ap (slot st) k ∙ h.slot)) o.4
    where
      some_is : {a b : Thread} → Some a ≡ Some b → a ≡ b
      some_is z = cc z

  -- an owner stands in one place alone
  pub owned_by : (number a i : ℕ) → request_of st m ≡ Owned number a → x ≡ port.Owned i → StandsAt p st r number i
  owned_by number a i e f = subst (λ q. SameRequest p st r (Owned number a) q) f (subst (λ q. SameRequest p st r q x) e same)

  -- where a place owns the port, the thread that stands there owns the machine's request
  pub owner_of : (i : ℕ) → x ≡ port.Owned i → (number : ℕ) × (a : ℕ) × (request_of st m ≡ Owned number a) × StandsAt p st r number i
  owner_of i f = at (request_of st m) refl (subst (λ q. SameRequest p st r (request_of st m) q) f same)
    where
      at : (q : machine.Request) → request_of st m ≡ q → SameRequest p st r (request_of st m) (port.Owned i)
          → (number : ℕ) × (a : ℕ) × (request_of st m ≡ Owned number a) × StandsAt p st r number i
      at NoRequest e h = absurd (subst (λ q. SameRequest p st r q (port.Owned i)) e h)
      at (Orphan a) e h = absurd (subst (λ q. SameRequest p st r q (port.Owned i)) e h)
      at (Owned number a) e h = (number, a, e, subst (λ q. SameRequest p st r q (port.Owned i)) e h)

  place_of : (number a : ℕ) → request_of st m ≡ Owned number a → (i : ℕ) × (x ≡ port.Owned i) × StandsAt p st r number i
  place_of number a e = at x refl (subst (λ q. SameRequest p st r q x) e same)
    where
      at : (q : PortState) → x ≡ q → SameRequest p st r (Owned number a) x → (i : ℕ) × (x ≡ port.Owned i) × StandsAt p st r number i
      at Idle f h = absurd (subst (λ q. SameRequest p st r (Owned number a) q) f h)
      at port.Orphan f h = absurd (subst (λ q. SameRequest p st r (Owned number a) q) f h)
      at (port.Owned i) f h = (i, f, subst (λ q. SameRequest p st r (Owned number a) q) f h)

  -- where a thread owns the memory's request, the port's reply bit is the machine's
  pub owned_reply : (number a : ℕ) → request_of st m ≡ Owned number a → reply_bit p st bits m ≡ is_answered p bits m
  owned_reply number a e = ap (λ q. is_outstanding q && is_answered p bits m) e

  -- ANSWERED

  -- who awaits the memory has its request, and stands in a place
  pub waits_at : (k : ℕ) (u : Thread) → slot st k ≡ Some u → Awaits u m
      → (a : ℕ) × (i : ℕ) × (request_of st m ≡ Owned u.number a) × (x ≡ port.Owned i) × (i < length (places p r)) × (place_at p r i ≡ k)
  waits_at k u e w =
      let a = each_some (IsAwaited p st k u.number) (λ (q : Awaited). q.mem ≡ m) u.awaits (flight.awaited k u e) w in
      let owned : request_of st m ≡ Owned u.number a.1.address = subst (λ j. request_of st j ≡ Owned u.number a.1.address) a.2 a.1.owned in
      let o = place_of u.number a.1.address owned in
      (a.1.address, o.0, owned, o.1, o.2.low, flight.same (place_at p r o.0) k o.2.thread u o.2.slot e o.2.number)

  owns_is : (q : PortState) (i : ℕ) → owns q i ≡ true → q ≡ port.Owned i
  owns_is Idle i e = absurd (cc e)
  owns_is port.Orphan i e = absurd (cc e)
  owns_is (port.Owned j) i e = ap (λ k. port.Owned k) (eqb-true j i e)

  thread_is : (k i : ℕ) (u : Thread) (number : ℕ) → place_at p r i ≡ k → slot st k ≡ Some u → (h : StandsAt p st r number i) → h.thread ≡ u
  thread_is k i u number e f h = some_is (sym h.slot ∙ ap (slot st) e ∙ f)
    where
      some_is : {a b : Thread} → Some a ≡ Some b → a ≡ b
      some_is z = cc z

  -- the thread of a place that the port owns
  pub owner_here : (k i : ℕ) (u : Thread) → place_at p r i ≡ k → slot st k ≡ Some u → x ≡ port.Owned i
      → Awaits u m × ((number : ℕ) × (a : ℕ) × (request_of st m ≡ Owned number a) × (u.number ≡ number))
  owner_here k i u e f g =
      let o = owner_of i g in
      let same' = thread_is k i u o.0 e f o.3 in
      (subst (λ (t : Thread). Awaits t m) same' (owner_awaits o.0 o.1 i o.2 o.3), (o.0, o.1, o.2, sym (ap (λ (t : Thread). t.number) same') ∙ o.3.number))

  -- where the thread of a place awaits nothing more after this cycle's answers, the port says that the place waits for no answer
  pub answered_yes : (i k : ℕ) (u : Thread) → place_at p r i ≡ k → slot st k ≡ Some u
      → is_empty (with_answers p st bits u).awaits ≡ true → port.is_answered x (reply_bit p st bits m) i ≡ true
  answered_yes i k u e f none = at (owns x i) refl
    where
      at : (b : Bool) → owns x i ≡ b → (if b then reply_bit p st bits m else true) ≡ true
      at false g = refl
      at true g =
          let o = owner_here k i u e f (owns_is x i g) in
          owned_reply o.1.0 o.1.1 o.1.2 ∙ all_in p st bits k u.number u.awaits (flight.awaited k u f) none m o.0

  -- where the thread of stage k awaits the memory and no reply comes, the port says that the place of this stage waits
  pub answered_no : (k : ℕ) (u : Thread) → slot st k ≡ Some u → Awaits u m → is_answered p bits m ≡ false
      → (i : ℕ) × (i < length (places p r)) × (place_at p r i ≡ k) × (port.is_answered x (reply_bit p st bits m) i ≡ false)
  answered_no k u f w late =
      let o = waits_at k u f w in (
        o.1,
        o.4,
        o.5,
        ap (λ q. if owns q o.1 then reply_bit p st bits m else true) o.3
            ∙ ap (λ b. if b then reply_bit p st bits m else true) (eq-eqb o.1 o.1 refl) ∙ owned_reply u.number o.0 o.2
            ∙ late,
      )

  -- ANSWERS

  module _ (k : ℕ) (u : Thread) (f : slot st k ≡ Some u) (long : length u.env ≡ p.vars) where
    abbrev raw : List ℕ
    raw = with_kept u.kept u.env

    abbrev now : List ℕ
    now = with_kept (with_answers p st bits u).kept u.env

    now_is : now ≡ with_kept (answered_reads p st bits u.number u.awaits) raw
    now_is = kept_append u.kept (answered_reads p st bits u.number u.awaits) u.env

    var_low : r.var < length raw
    var_low = let z = kept_long u.kept u.env in let l = (reads.known m r is).2 in omega (arith, z, long, l)

    -- a read of this variable is one of this memory
    mine : (rs : List Awaited) → Each (IsAwaited p st k u.number) rs → Each (λ (q : Awaited). q.var ≡ r.var → q.mem ≡ m) rs
    mine [] h = tt
    mine (q ∷ rs) h = ((λ e. reads.apart q.mem m h.0.read r h.0.is is (h.0.var ∙ e)), mine rs h.1)

    with_var : (rs : List Awaited) → Each (IsAwaited p st k u.number) rs → Some-of (λ (q : Awaited). q.mem ≡ m) rs
        → Some-of (λ (q : Awaited). (q.mem ≡ m) × (q.var ≡ r.var)) rs
    with_var [] h i = absurd i
    with_var (q ∷ rs) h (inl e) = inl (e, sym h.0.var ∙ ap (λ (y : Reading). y.var) (some_is (sym h.0.is ∙ ap (reading p) e ∙ is)))
      where
        some_is : {a b : Reading} → Some a ≡ Some b → a ≡ b
        some_is z = cc z
    with_var (q ∷ rs) h (inr e) = inr (with_var rs h.1 e)

    -- where the answer that a thread awaits comes now, its variable has the word that was asked for
    pub comes_now : Awaits u m → is_answered p bits m ≡ true → slice_index (with_kept (with_answers p st bits u).kept u.env) r.var ≡ word_asked st m
    comes_now w a =
        let each = flight.awaited k u f in
        ap (λ e. slice_index e r.var) now_is ∙ bound p st bits k u.number r.var m u.awaits raw each (mine u.awaits each) var_low a (with_var u.awaits each w)

    -- what the port gives for a place is the thread's value
    pub given_right : (i : ℕ) → place_at p r i ≡ k → port.is_given x (reply_bit p st bits m) i ≡ true
        → slice_index (with_kept (with_answers p st bits u).kept u.env) r.var ≡ word_asked st m
    given_right i e g = at (owns x i) refl g
      where
        at : (b : Bool) → owns x i ≡ b → (if b then reply_bit p st bits m else false) ≡ true
            → slice_index (with_kept (with_answers p st bits u).kept u.env) r.var ≡ word_asked st m
        at false h j = absurd (cc j)
        at true h j = let z = owner_here k i u e f (owns_is x i h) in comes_now z.0 (sym (owned_reply z.1.0 z.1.1 z.1.2) ∙ j)

  -- where a reply comes to a thread that awaits the memory, the port gives it at the place of its stage
  pub given_comes : (k : ℕ) (u : Thread) → slot st k ≡ Some u → Awaits u m → is_answered p bits m ≡ true
      → (i : ℕ) × (i < length (places p r)) × (place_at p r i ≡ k) × (port.is_given x (reply_bit p st bits m) i ≡ true)
  given_comes k u f w a =
      let o = waits_at k u f w in (
        o.1,
        o.4,
        o.5,
        ap (λ q. if owns q o.1 then reply_bit p st bits m else false) o.3
            ∙ ap (λ b. if b then reply_bit p st bits m else false) (eq-eqb o.1 o.1 refl) ∙ owned_reply u.number o.0 o.2
            ∙ a,
      )

  -- FREE

  free_of : (q : machine.Request) → request_of st m ≡ q → (g : PortState) → x ≡ g
      → is_free q (is_answered p bits m) (later_acts p st bits r.stage)
      ≡ port.is_free g (is_outstanding q && is_answered p bits m) (λ i. stage_moves p st bits (place_at p r i))
  free_of NoRequest e Idle f = refl
  free_of (Orphan a) e port.Orphan f = refl
  free_of NoRequest e (port.Owned i) f = absurd (subst (λ q. SameRequest p st r NoRequest q) f (subst (λ q. SameRequest p st r q x) e same))
  free_of NoRequest e port.Orphan f = absurd (subst (λ q. SameRequest p st r NoRequest q) f (subst (λ q. SameRequest p st r q x) e same))
  free_of (Orphan a) e (port.Owned i) f = absurd (subst (λ q. SameRequest p st r (Orphan a) q) f (subst (λ q. SameRequest p st r q x) e same))
  free_of (Orphan a) e Idle f = absurd (subst (λ q. SameRequest p st r (Orphan a) q) f (subst (λ q. SameRequest p st r q x) e same))
  free_of (Owned number a) e Idle f = absurd (subst (λ q. SameRequest p st r (Owned number a) q) f (subst (λ q. SameRequest p st r q x) e same))
  free_of (Owned number a) e port.Orphan f = absurd (subst (λ q. SameRequest p st r (Owned number a) q) f (subst (λ q. SameRequest p st r q x) e same))
  free_of (Owned number a) e (port.Owned i) f = ap (λ b. is_answered p bits m && b) (at (stage_moves p st bits (place_at p r i)) refl)
    where
      o : StandsAt p st r number i
      o = owned_by number a i e f

      test : Act → Bool
      test y = (y.thread.number == number) && y.moves

      at : (b : Bool) → stage_moves p st bits (place_at p r i) ≡ b
          → list_any (λ (y : Act). (y.thread.number == number) && y.moves) (later_acts p st bits r.stage) ≡ b
      at true g =
          let up = place_up i o.low in
          some_later p st bits (λ (y : Act). (y.thread.number == number) && y.moves) flight.count r.stage (place_at p r i)
          (with_answers p st bits o.thread) up.0 up.1 (ap (with_now p st bits) o.slot)
          (ap₂ (λ b c. b && c) (eq-eqb o.thread.number number o.number) g)
      at false g = none_later p st bits (λ (y : Act). (y.thread.number == number) && y.moves) flight.count r.stage each
        where
          no : (b : Bool) → (b && false) ≡ false
          no true = refl
          no false = refl

          each : (j : ℕ) (t : Thread) → r.stage < j → j < length p.stages → here p st bits j ≡ Some t
              → ((t.number == number) && stage_moves p st bits j) ≡ false
          each j t low high h = by' (t.number == number) refl
            where
              by' : (b : Bool) → (t.number == number) ≡ b → (b && stage_moves p st bits j) ≡ false
              by' false z = refl
              by' true z =
                  let s = stood_in p st bits j t h in
                  let j_is : j ≡ place_at p r i =
                  flight.same j (place_at p r i) s.0 o.thread s.1 o.slot (ap (λ (v : Thread). v.number) s.2 ∙ eqb-true t.number number z ∙ sym o.number) in
                  ap (stage_moves p st bits) j_is ∙ g

  -- the machine has the port free for the reading stage just where the port is free by the moves of its places
  pub free_is : is_free (request_of st m) (is_answered p bits m) (later_acts p st bits r.stage)
      ≡ port.is_free x (reply_bit p st bits m) (λ i. stage_moves p st bits (place_at p r i))
  free_is = free_of (request_of st m) refl x refl
