-- What a port's state and act say, as tests: of the owner and an orphan over a cycle.
use Rattle.std.proofs.Common.{◌≡◌, ℕ, zero, suc, ◌<◌, ◌≤◌, Bool, true, false, refl, sym, ap, ◌∙◌, arith, ⊎_elim, subst}
use Rattle.std.specs.Prelude.{◌&&◌, ◌==◌, if◌then◌else◌, Option, Some, None, is_some}
use Rattle.std.proofs.lemmas.Bool.{cases_lt, eqb-true, eq-eqb, ne_eqb}
use Rattle.pdl_port.specs.Port.{PortState, Idle, Owned, Orphan, PortAct, owns, is_free, asker, asked_request, left_request}
use Rattle.pdl_port.specs.Places.{is_orphan}
use Rattle.pdl_word.proofs.Bools.{if_false}

-- the first that asks is there and asks
asker_some : (on : ℕ → Bool) (n j : ℕ) → asker on n ≡ Some j → (j < n) × (on j ≡ true)
asker_some on zero j e = absurd (cc e)
asker_some on (suc n) j e = more (asker on n) (on n) refl refl e (λ q. asker_some on n j q)
  where
    more : (o : Option ℕ) (t : Bool) → asker on n ≡ o → on n ≡ t
        → (if is_some o then o else (if t then Some n else None)) ≡ Some j
        → (asker on n ≡ Some j → (j < n) × (on j ≡ true)) → (j < suc n) × (on j ≡ true)
    more (Some i) t p q h rest = let r = rest (p ∙ h) in (omega (arith, r.0), r.1)
    more None true p q h rest = let i : n ≡ j = cc h in let P : ℕ → Type 0 = λ k. on k ≡ true in (omega arith, subst P i q)
    more None false p q h rest = absurd (cc h)

-- where none is found none asks
pub asker_none : (on : ℕ → Bool) (n : ℕ) → asker on n ≡ None → (k : ℕ) → k < n → on k ≡ false
asker_none on zero e k h = absurd (omega arith)
asker_none on (suc n) e k h = more (asker on n) (on n) refl refl e (λ q l. asker_none on n q k l)
  where
    more : (o : Option ℕ) (t : Bool) → asker on n ≡ o → on n ≡ t
        → (if is_some o then o else (if t then Some n else None)) ≡ None → (asker on n ≡ None → k < n → on k ≡ false)
        → on k ≡ false
    more (Some i) t p q r rest = absurd (cc r)
    more None true p q r rest = absurd (cc r)
    more None false p q r rest =
        ⊎_elim (λ (l : k < n). rest p l) (λ (g : n ≤ k). let i : n ≡ k = omega arith in let P : ℕ → Type 0 = λ m. on m ≡ false in subst P i q) (cases_lt k n)

-- the thread of a place owns the request after a cycle: it asks, or it owned it and is neither answered nor removed
abbrev pub still : Bool → Bool → Bool → Bool
still gone reply own = if gone then false else (if reply then false else own)

still_none : (gone reply own : Bool) → (if reply then false else own) ≡ false → still gone reply own ≡ false
still_none true reply own e = refl
still_none false reply own e = e

idle_left : (gone reply : Bool) → still gone reply false ≡ false
idle_left true reply = refl
idle_left false true = refl
idle_left false false = refl

orphan_left : (k : ℕ) (reply : Bool) → false ≡ owns (if reply then Idle else Orphan) k
orphan_left k true = refl
orphan_left k false = refl

owned_left : (j k : ℕ) (gone reply : Bool) → still gone reply (j == k) ≡ owns (if reply then Idle else (if gone then Orphan else Owned j)) k
owned_left j k true true = refl
owned_left j k true false = refl
owned_left j k false true = refl
owned_left j k false false = refl

other_left : (j k : ℕ) (gone lost reply : Bool)
    → (j == k) ≡ false → still gone reply (j == k) ≡ owns (if reply then Idle else (if lost then Orphan else Owned j)) k
other_left j k true lost true e = refl
other_left j k true true false e = refl
other_left j k true false false e = sym e
other_left j k false lost true e = refl
other_left j k false true false e = e
other_left j k false false false e = refl

-- where no place asks
left_owns : (a : PortAct) (q : PortState) (k : ℕ) → still (a.removed k) a.reply (owns q k) ≡ owns (left_request a q) k
left_owns a Idle k = idle_left (a.removed k) a.reply
left_owns a Orphan k = idle_left (a.removed k) a.reply ∙ orphan_left k a.reply
left_owns a (Owned j) k = by_place (j == k) refl
  where
    by_place : (t : Bool) → (j == k) ≡ t → still (a.removed k) a.reply (j == k) ≡ owns (if a.reply then Idle else (if a.removed j then Orphan else Owned j)) k
    by_place true e =
        let i : k ≡ j = sym (eqb-true j k e) in
        ap (λ m. still (a.removed m) a.reply (j == k)) i ∙ owned_left j k (a.removed j) a.reply
    by_place false e = other_left j k (a.removed k) (a.removed j) a.reply e

-- where the port is free no owner stays
freed : (q : PortState) (reply : Bool) (moves : ℕ → Bool) (k : ℕ)
    → is_free q reply moves ≡ true → (if reply then false else owns q k) ≡ false
freed Idle true moves k e = refl
freed Idle false moves k e = refl
freed (Owned j) true moves k e = refl
freed (Owned j) false moves k e = absurd (cc e)
freed Orphan true moves k e = refl
freed Orphan false moves k e = absurd (cc e)

-- after a cycle of proper use the owner is who asks, or the owner before if neither answered nor removed
pub owns_after : (a : PortAct) (q : PortState) (n k : ℕ)
    → k < n → ((i j : ℕ) → i < n → j < n → a.asked i ≡ true → a.asked j ≡ true → i ≡ j)
    → ((j : ℕ) → j < n → a.asked j ≡ true → is_free q a.reply a.moves ≡ true)
    → (if a.asked k then true else still (a.removed k) a.reply (owns q k)) ≡ owns (asked_request (asker a.asked n) (left_request a q)) k
owns_after a q n k h one free = by_asker (asker a.asked n) refl
  where
    by_asked : (j : ℕ) → j < n → a.asked j ≡ true → (t : Bool) → a.asked k ≡ t → (if t then true else still (a.removed k) a.reply (owns q k)) ≡ (j == k)
    by_asked j l e true p = sym (eq-eqb j k (one j k l h e p))
    by_asked j l e false p =
        let apart : j ≡ k → ⊥ = λ (i : j ≡ k). let P : ℕ → Type 0 = λ m. a.asked m ≡ true in let t : a.asked k ≡ true = subst P i e in absurd (cc (p, t)) in
        still_none (a.removed k) a.reply (owns q k) (freed q a.reply a.moves k (free j l e)) ∙ sym (ne_eqb j k apart)

    by_asker : (o : Option ℕ) → asker a.asked n ≡ o
        → (if a.asked k then true else still (a.removed k) a.reply (owns q k)) ≡ owns (asked_request o (left_request a q)) k
    by_asker None p = ap (λ t. if t then true else still (a.removed k) a.reply (owns q k)) (asker_none a.asked n p k h) ∙ left_owns a q k
    by_asker (Some j) p = let r = asker_some a.asked n j p in by_asked j r.0 r.1 (a.asked k) refl

-- an orphan is left by the first n places
abbrev pub lost : PortAct → PortState → ℕ → Bool
lost a q zero = if a.reply then false else is_orphan q
lost a q (suc k) = if a.removed k then (if (if a.reply then false else owns q k) then true else lost a q k) else lost a q k

no_more : (s t x : Bool) → t ≡ false → (if s then (if t then true else x) else x) ≡ x
no_more true t x e = ap (λ u. if u then true else x) e
no_more false t x e = refl

answered_none : (t o : Bool) → t ≡ true → (if t then false else o) ≡ false
answered_none t o e = ap (λ u. if u then false else o) e

lost_answered : (a : PortAct) (q : PortState) (n : ℕ) → a.reply ≡ true → lost a q n ≡ false
lost_answered a q zero e = answered_none a.reply (is_orphan q) e
lost_answered a q (suc n) e =
    no_more (a.removed n) (if a.reply then false else owns q n) (lost a q n) (answered_none a.reply (owns q n) e) ∙ lost_answered a q n e

-- no place below n owns the request
lost_unowned : (a : PortAct) (q : PortState) (n : ℕ)
    → ((k : ℕ) → k < n → owns q k ≡ false) → lost a q n ≡ (if a.reply then false else is_orphan q)
lost_unowned a q zero h = refl
lost_unowned a q (suc n) h =
    no_more (a.removed n) (if a.reply then false else owns q n) (lost a q n) (if_false a.reply (owns q n) (h n (omega arith)))
    ∙ lost_unowned a q n (λ k l. h k (omega arith))

last_lost : (s r o x : Bool)
    → o ≡ true → x ≡ (if r then false else false)
    → (if s then (if (if r then false else o) then true else x) else x) ≡ (if r then false else s)
last_lost true true o x e i = i
last_lost true false o x e i = ap (λ u. if u then true else x) e
last_lost false true o x e i = i
last_lost false false o x e i = i

lost_owned : (a : PortAct) (j n : ℕ) → j < n → lost a (Owned j) n ≡ (if a.reply then false else a.removed j)
lost_owned a j zero h = absurd (omega arith)
lost_owned a j (suc n) h = ⊎_elim
    (λ (l : j < n). no_more (a.removed n) (if a.reply then false else (j == n)) (lost a (Owned j) n)
    (if_false a.reply (j == n) (ne_eqb j n (λ (i : j ≡ n). absurd (omega arith))))
    ∙ lost_owned a j n l)
    (λ (g : n ≤ j). let i : n ≡ j = omega arith in
    last_lost (a.removed n) a.reply (j == n) (lost a (Owned j) n) (eq-eqb j n (sym i))
    (lost_unowned a (Owned j) n (λ k l. ne_eqb j k (λ (o : j ≡ k). absurd (omega arith))))
    ∙ ap (λ m. if a.reply then false else a.removed m) i)
    (cases_lt j n)

-- where the port is free no orphan stays
lost_freed : (a : PortAct) (q : PortState) (n : ℕ) → is_free q a.reply a.moves ≡ true → lost a q n ≡ false
lost_freed a Idle n e = lost_unowned a Idle n (λ k l. refl) ∙ if_false a.reply false refl
lost_freed a (Owned j) n e = lost_answered a (Owned j) n (replied a.reply e)
  where
    replied : (r : Bool) → (r && a.moves j) ≡ true → r ≡ true
    replied true h = refl
    replied false h = absurd (cc h)
lost_freed a Orphan n e = lost_answered a Orphan n e

orphan_idle : (r : Bool) → (if r then false else false) ≡ false
orphan_idle true = refl
orphan_idle false = refl

orphan_orphan : (r : Bool) → (if r then false else true) ≡ is_orphan (if r then Idle else Orphan)
orphan_orphan true = refl
orphan_orphan false = refl

orphan_owned : (r s : Bool) (j : ℕ) → (if r then false else s) ≡ is_orphan (if r then Idle else (if s then Orphan else Owned j))
orphan_owned true s j = refl
orphan_owned false true j = refl
orphan_owned false false j = refl

lost_left : (a : PortAct) (q : PortState) (n : ℕ) → ((k : ℕ) → q ≡ Owned k → k < n) → lost a q n ≡ is_orphan (left_request a q)
lost_left a Idle n h = lost_unowned a Idle n (λ k l. refl) ∙ orphan_idle a.reply
lost_left a (Owned j) n h = lost_owned a j n (h j refl) ∙ orphan_owned a.reply (a.removed j) j
lost_left a Orphan n h = lost_unowned a Orphan n (λ k l. refl) ∙ orphan_orphan a.reply

-- after a cycle of proper use an orphan is outstanding just where the n places leave one
pub orphan_after : (a : PortAct) (q : PortState) (n : ℕ)
    → ((k : ℕ) → q ≡ Owned k → k < n) → ((j : ℕ) → j < n → a.asked j ≡ true → is_free q a.reply a.moves ≡ true)
    → lost a q n ≡ is_orphan (asked_request (asker a.asked n) (left_request a q))
orphan_after a q n below free = by_asker (asker a.asked n) refl
  where
    by_asker : (o : Option ℕ) → asker a.asked n ≡ o → lost a q n ≡ is_orphan (asked_request o (left_request a q))
    by_asker None p = lost_left a q n below
    by_asker (Some j) p = let r = asker_some a.asked n j p in lost_freed a q n (free j r.0 r.1)

-- an owner after a cycle stands in one of the n places
left_below : (a : PortAct) (q : PortState) (n k : ℕ) → ((j : ℕ) → q ≡ Owned j → j < n) → left_request a q ≡ Owned k → k < n
left_below a Idle n k h e = absurd (cc e)
left_below a (Owned j) n k h e = by_left a.reply (a.removed j) e
  where
    by_left : (r s : Bool) → (if r then Idle else (if s then Orphan else Owned j)) ≡ Owned k → k < n
    by_left true s p = absurd (cc p)
    by_left false true p = absurd (cc p)
    by_left false false p = h k p
left_below a Orphan n k h e = by_left a.reply e
  where
    by_left : (r : Bool) → (if r then Idle else Orphan) ≡ Owned k → k < n
    by_left true p = absurd (cc p)
    by_left false p = absurd (cc p)

-- the owner after a cycle stands in one of the n places, if the owner before it did
pub below_after : (a : PortAct) (q : PortState) (n k : ℕ)
    → ((j : ℕ) → q ≡ Owned j → j < n) → asked_request (asker a.asked n) (left_request a q) ≡ Owned k → k < n
below_after a q n k h e = by_asker (asker a.asked n) refl e
  where
    by_asker : (o : Option ℕ) → asker a.asked n ≡ o → asked_request o (left_request a q) ≡ Owned k → k < n
    by_asker None p i = left_below a q n k h i
    by_asker (Some j) p i = let r = asker_some a.asked n j p in let g : j ≡ k = cc i in omega (arith, r.0)

-- the port is free, by the first n places
abbrev pub frees : PortState → Bool → (ℕ → Bool) → ℕ → Bool
frees q r on zero = if is_orphan q then r else true
frees q r on (suc k) = if owns q k then r && on k else frees q r on k

frees_idle : (r : Bool) (on : ℕ → Bool) (n : ℕ) → frees Idle r on n ≡ true
frees_idle r on zero = refl
frees_idle r on (suc n) = frees_idle r on n

frees_orphan : (r : Bool) (on : ℕ → Bool) (n : ℕ) → frees Orphan r on n ≡ r
frees_orphan r on zero = refl
frees_orphan r on (suc n) = frees_orphan r on n

frees_owned : (j : ℕ) (r : Bool) (on : ℕ → Bool) (n : ℕ) → j < n → frees (Owned j) r on n ≡ (r && on j)
frees_owned j r on zero h = absurd (omega arith)
frees_owned j r on (suc n) h = ⊎_elim
    (λ (l : j < n). ap (λ t. if t then r && on n else frees (Owned j) r on n) (ne_eqb j n (λ (i : j ≡ n). absurd (omega arith))) ∙ frees_owned j r on n l)
    (λ (g : n ≤ j). let i : n ≡ j = omega arith in ap (λ t. if t then r && on n else frees (Owned j) r on n) (eq-eqb j n (sym i)) ∙ ap (λ m. r && on m) i)
    (cases_lt j n)

-- a port is free by the first n places just where it is free, if its owner stands in one of them
pub frees_is : (q : PortState) (r : Bool) (on : ℕ → Bool) (n : ℕ) → ((k : ℕ) → q ≡ Owned k → k < n) → frees q r on n ≡ is_free q r on
frees_is Idle r on n h = frees_idle r on n
frees_is (Owned j) r on n h = frees_owned j r on n (h j refl)
frees_is Orphan r on n h = frees_orphan r on n
