-- Short histories of a lock, and what the definitions say of them.
use Rattle.std.proofs.Common.{◌≡◌, refl, ℕ, zero, suc, ◌<◌, inl, ⊎_elim, true, false, List, [], ◌∷◌, None, get_or, Contains, arith}
use Rattle.pdl_lockapi.specs.Lock.{LockAct, WriteAct, act_at}
use Rattle.pdl_lock_any.specs.History.{next_given, live, live_in, released, squashed, IsWritten}
use Rattle.pdl_lock_any.specs.Use.{IsTail, IsUse, AreUses}
use Rattle.pdl_lock_any.specs.Laws.{after}

-- a write through a ticket
abbrev write : ℕ → ℕ → WriteAct
write t v = record { on = true; ticket = t; value = v }

-- a cycle with these reservations and writes alone
abbrev quiet : List ℕ → List WriteAct → LockAct
quiet rs ws = record { reserves = rs; writes = ws; release = false; release2 = false; squash = false; tail = 0 }

-- TWO RESERVATIONS, TWO RELEASES AND A SQUASH

-- the first cycle reserves two addresses
abbrev two : LockAct
two = quiet (3 ∷ 1 ∷ []) []

-- the second one reserves a third, writes the first two and releases both, and squashes what was reserved after the first cycle
abbrev both : LockAct
both = record {
  reserves = 2 ∷ [];
  writes = write 1 9 ∷ write 0 7 ∷ [];
  release = true;
  release2 = true;
  squash = true;
  tail = 2;
}

-- and the third one is given the third ticket again
abbrev again : LockAct
again = quiet (0 ∷ []) []

two_live : live (two ∷ []) ≡ record { cycle = 0; ticket = 0 } ∷ record { cycle = 0; ticket = 1 } ∷ []
two_live = refl

both_released : released (two ∷ []) both ≡ record { cycle = 0; ticket = 0 } ∷ record { cycle = 0; ticket = 1 } ∷ []
both_released = refl

both_squashed : squashed (two ∷ []) both ≡ record { cycle = 1; ticket = 2 } ∷ []
both_squashed = refl

none_live : live (both ∷ two ∷ []) ≡ []
none_live = refl

again_live : live (again ∷ both ∷ two ∷ []) ≡ record { cycle = 2; ticket = 2 } ∷ []
again_live = refl

again_next : next_given (again ∷ both ∷ two ∷ []) ≡ 3
again_next = refl

again_state : after (5 ∷ 5 ∷ 5 ∷ 5 ∷ []) (again ∷ both ∷ two ∷ []) ≡ record {
  base = 2;
  entries = record { addr = 0; value = None } ∷ [];
  words = 5 ∷ 9 ∷ 5 ∷ 7 ∷ [];
}
again_state = refl

first_two : (P : ℕ → Type 0) → P 0 → P 1 → (k : ℕ) → k < 2 → P k
first_two P p q zero h = p
first_two P p q (suc zero) h = q
first_two P p q (suc (suc k)) h = absurd (omega (arith, h))

-- the squash drops what was reserved after the first cycle
both_tail : IsTail (two ∷ []) both
both_tail = record {
  before = [];
  act = two;
  since = both ∷ [];
  parts = refl;
  tail = refl;
  kept = (
    λ h k d l. first_two (λ j. (get_or (record { cycle = 0; ticket = 0 } ∷ record { cycle = 0; ticket = 1 } ∷ []) j d).cycle < 1) (omega arith) (omega arith) k l,
    (λ h k d l. absurd (omega (arith, l)), tt),
  );
  held = (λ h k d l. absurd (omega (arith, l)), tt);
}

-- the tickets that are live in the second cycle
abbrev three : List ℕ
three = 0 ∷ 1 ∷ 2 ∷ []

-- it is proper use
both_proper : IsUse 3 (two ∷ []) both
both_proper = record {
  two = omega arith;
  room = omega arith;
  through = λ k l o. first_two (λ j. Contains three (act_at both.writes j).ticket) (1, omega arith, refl) (0, omega arith, refl) k l;
  oldest = λ o. (record { cycle = 0; ticket = 0 }, record { cycle = 0; ticket = 1 } ∷ record { cycle = 1; ticket = 2 } ∷ [], refl, (omega arith, inl (1, omega arith, refl, refl)));
  both = λ o. refl;
  next = λ o. (record { cycle = 0; ticket = 0 }, record { cycle = 0; ticket = 1 }, record { cycle = 1; ticket = 2 } ∷ [], refl, (omega arith, inl (0, omega arith, refl, refl)));
  squash = λ o. both_tail;
}

two_proper : IsUse 3 [] two
two_proper = record {
  two = omega arith;
  room = omega arith;
  through = λ k l o. absurd (omega (arith, l));
  oldest = λ o. absurd (cc o);
  both = λ o. absurd (cc o);
  next = λ o. absurd (cc o);
  squash = λ o. absurd (cc o);
}

again_proper : IsUse 3 (both ∷ two ∷ []) again
again_proper = record {
  two = omega arith;
  room = omega arith;
  through = λ k l o. absurd (omega (arith, l));
  oldest = λ o. absurd (cc o);
  both = λ o. absurd (cc o);
  next = λ o. absurd (cc o);
  squash = λ o. absurd (cc o);
}

-- and so is the whole history
all_proper : AreUses 3 (again ∷ both ∷ two ∷ [])
all_proper = (((tt, two_proper), both_proper), again_proper)

-- THE TICKET OF A SQUASHED RESERVATION

-- the second cycle's reservation is squashed in it
abbrev dropped : LockAct
dropped = record { reserves = 2 ∷ []; writes = []; release = false; release2 = false; squash = true; tail = 1 }

-- a write through its ticket
abbrev late : LockAct
late = quiet [] (write 1 9 ∷ [])

dropped_live : live_in (dropped ∷ quiet (3 ∷ []) [] ∷ []) late ≡ record { cycle = 0; ticket = 0 } ∷ []
dropped_live = refl

abbrev only_first : List ℕ
only_first = 0 ∷ []

no_one : (k : ℕ) → k < 1 → get_or only_first k 1 ≡ 1 → ⊥
no_one zero l e = cc e
no_one (suc k) l e = omega (arith, l)

-- it is no proper use in a lock of any size
late_improper : (n : ℕ) → IsUse n (dropped ∷ quiet (3 ∷ []) [] ∷ []) late → ⊥
late_improper n u = let c = u.through 0 (omega arith) refl in no_one c.0 c.1 c.2

-- A TICKET THAT WAS GIVEN OUT AGAIN

-- a reservation of the second cycle is written, and squashed in the third, which drops what was reserved after the first; then its ticket is given to another one
abbrev given_again : List LockAct
given_again =
    quiet (3 ∷ []) [] ∷ record { reserves = []; writes = []; release = false; release2 = false; squash = true; tail = 0 }
    ∷ quiet (2 ∷ []) (write 0 7 ∷ []) ∷ quiet [] [] ∷ []

given_again_live : live given_again ≡ record { cycle = 3; ticket = 0 } ∷ []
given_again_live = refl

no_write : (k : ℕ) → k < 0 → ⊥
no_write k l = omega (arith, l)

-- the new one isn't written
not_written : IsWritten given_again (record { cycle = 3; ticket = 0 }) → ⊥
not_written w = ⊎_elim (λ g. no_write g.0 g.1) (λ v. omega (arith, v.0)) w.1
