-- The ticket of a location: that of its thread, or the one after it.
use Rattle.std.proofs.Common.{◌≡◌, refl, sym, ap, ◌∙◌, subst, ℕ, zero, suc, ◌+◌, ◌%◌, ◌^◌, ◌<◌, Bool, true, false, arith}
use Rattle.std.specs.Prelude.{if◌then◌else◌, nat_lt}
use Rattle.std.proofs.Math.Nat.{mod-add-mod}
use Rattle.pdl_word.specs.Words as words
use Rattle.pdl_word.specs.Words.{bit}
use Rattle.pdl_net.specs.declared.BinOp.TheVariants.{Add}
use Rattle.pdl_net.specs.Circuit.{State}
use Rattle.pdl_net.specs.Signal.{Signal, const_signal, bin_signal, bin_value, const_value}
use Rattle.pdl_lockapi.specs.Laws.{holds_ticket}
use Rattle.pdl_law_parts.specs.Walk.{is_on}
use Rattle.pdl_law_parts.specs.Ports.{one_more, ticket_at}
use Rattle.pdl_law_parts.proofs.Signals.{mux_by, on_is}

-- one more than a number that a word of w bits holds
more_value : (w v t : ℕ) → v ≡ t % 2 ^ w → words.add w v 1 ≡ (t + 1) % 2 ^ w
unfolding words.add
more_value w v t e = ap (λ n. (n + 1) % 2 ^ w) e ∙ mod-add-mod t (2 ^ w) 1

-- a ticket, or the one after it where the condition is 1
pub one_more_is : (s : State) (on f : Signal) (w t : ℕ) → f.width ≡ w → holds_ticket w f s t → holds_ticket w (one_more on f) s (t + bit (is_on on s))
unfolding bin_value const_value
one_more_is s on f w t wide h =
    subst (λ n. (one_more on f).value s ≡ (t + bit (is_on on s)) % 2 ^ n) wide
    (mux_by s on (bin_signal Add f (const_signal f.width 1)) f ∙ at (is_on on s))
  where
    held : f.value s ≡ t % 2 ^ f.width
    held = subst (λ n. f.value s ≡ t % 2 ^ n) (sym wide) h

    at : (b : Bool) → (if b then words.add f.width (f.value s) 1 else f.value s) ≡ (t + bit b) % 2 ^ f.width
    at true = more_value f.width (f.value s) t held
    at false = held ∙ ap (λ n. n % 2 ^ f.width) (let z : t ≡ t + 0 = omega arith in z)

-- a location whose reservation is at this place among the thread's own has the ticket that is by so many after the thread's
pub ticket_at_is : (s : State) (twice : Bool) (late : ℕ → Signal) (ticket : Signal) (a w t place : ℕ)
    → ticket.width ≡ w → holds_ticket w ticket s t
    → (twice ≡ true → (late a).value s ≡ bit (nat_lt 0 place)) → place < (if twice then 2 else 1)
    → holds_ticket w (ticket_at twice late ticket a) s (t + place)
ticket_at_is s true late ticket a w t place wide h tells few =
    subst (λ n. holds_ticket w (one_more (late a) ticket) s (t + n))
    (ap bit (on_is s (late a) (nat_lt 0 place) (tells refl)) ∙ at place few) (one_more_is s (late a) ticket w t wide h)
  where
    at : (n : ℕ) → n < 2 → bit (nat_lt 0 n) ≡ n
    at zero l = refl
    at (suc zero) l = refl
    at (suc (suc n)) l = absurd (omega (arith, l))
ticket_at_is s false late ticket a w t place wide h tells few =
    let same : t ≡ t + place = omega (arith, few) in
    subst (λ n. holds_ticket w ticket s n) same h
