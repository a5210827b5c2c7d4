-- The law of a bypass lock's look.
use Rattle.std.proofs.Common.{◌≡◌, ◌+◌, ◌-◌, ℕ, refl, sym, ap, ◌∙◌, length}
use Rattle.std.specs.Prelude.{List, Option, Some, None, true, is_some, slice_index, slice_index_or, [], take}
use Rattle.pdl_word.specs.Words.{bit}
use Rattle.pdl_semantics.specs.Tree.{Queue, Bypass}
use Rattle.pdl_net.specs.Circuit.{Circuit, State}
use Rattle.pdl_net.specs.Signal.{Signal, const_value, read_value}
use Rattle.pdl_lockapi.specs.declared.Kind.{Kind}
use Rattle.pdl_lockapi.specs.declared.Kind.TheVariants.{R, W}
use Rattle.pdl_lockapi.specs.declared.LockRegs.{LockRegs}
use Rattle.pdl_lockapi.specs.Lock.{LockState, Entry, look_ready, or_zero, youngest, older, next_ticket}
use Rattle.pdl_lockapi.specs.Laws.{HasWords, StartLaw, LookLaw, first_array}
use Rattle.pdl_lockapi.specs.Second.{LateLookLaw}
use Rattle.pdl_lockapi.specs.SlotLaws.{SlotsLaw}
use Rattle.pdl_lock_ring.specs.declared.layout.RingLayout.{RingLayout}
use Rattle.pdl_lock_ring.specs.Slots.{IsSized, Stands, HasEntries, content_signal}
use Rattle.pdl_lock_ring.specs.Looks.{youngest_look, youngest_ready, youngest_value}
use Rattle.pdl_lock_ring.proofs.LookMeanings.{Seeks, seeks_covered, seeks_late}
use Rattle.pdl_lock_ring.proofs.LookValues.{youngest_looked, value_looked, all_older, same_signal}
use Rattle.pdl_bypass.specs.Bypasses.{word_signal}

-- the image of a queue is that of a bypass lock, and so are the registers of its slots
pub start_law : (stands : State → LockState → Type 0) (c : Circuit) (r : LockRegs) → StartLaw stands Queue c r → StartLaw stands Bypass c r
start_law stands c r h = record { starts = h.starts }

-- slots that keep the laws of a queue lock's slots keep those of a bypass lock's
pub slots_law : (stands : State → LockState → Type 0) (n : ℕ) (r : LockRegs) → SlotsLaw stands Queue n r → SlotsLaw stands Bypass n r
slots_law stands n r h = record {
  regs = record { count = h.regs.count; least = h.regs.least; within = h.regs.within };
  addresses = h.addresses;
  values = h.values;
}

-- the word of the memory
word_held : (array : Option ℕ) (s : State) (ws : List ℕ)
    → is_some array ≡ true → HasWords array s ws → slice_index_or s.arrays (first_array array) [] ≡ ws
word_held None s ws i h = absurd (cc i)
word_held (Some m) s ws i h = h

word_is : (l : RingLayout) (a : Signal) (s : State) (ws : List ℕ)
    → is_some l.array ≡ true → HasWords l.array s ws → (word_signal l a).value s ≡ slice_index ws (a.value s)
unfolding read_value
word_is l a s ws i h = ap (λ us. slice_index us (a.value s)) (word_held l.array s ws i h)

-- whether a look is ready, by what the youngest of these says
abbrev ready_of : Kind → List Entry → ℕ → ℕ
ready_of R es a = bit (is_some (youngest es a (Some 0)))
ready_of W es a = bit true

picks : (l : RingLayout) (u : Kind) (a t : Signal) (s : State) (x : LockState) (d : ℕ) → IsSized l
    → HasEntries l (content_signal l) s x → Seeks l s x t d
    → (youngest_look u (youngest_ready l a t)).value s ≡ ready_of u (take d x.entries) (a.value s)
unfolding const_value
picks l R a t s x d z h k = youngest_looked l (content_signal l) s x a t d z h k
picks l W a t s x d z h k = refl

ready_is : (u : Kind) (x : LockState) (t a : ℕ) → ready_of u (older x t) a ≡ bit (look_ready Bypass u x t a)
ready_is R x t a = refl
ready_is W x t a = refl

-- a look at the youngest older write to the address keeps the law of a bypass lock's look
pub look_law : (l : RingLayout) (u : Kind) (a t : Signal) → IsSized l
    → is_some l.array ≡ true
    → LookLaw (Stands l) Bypass l.ticket u a t (youngest_look u (youngest_ready l a t)) (Some (youngest_value l (content_signal l) (word_signal l a) a t))
look_law l u a t z i = record {
  answers =
      λ s x n h k e. picks l u a t s x (n - x.base) z h.entries (seeks_covered l (content_signal l) s x t n z h.entries k e) ∙ ready_is u x n (a.value s);
  gives = λ f q s x n h k e fit ready.
      ap (λ (g : Signal). g.value s) (sym (same_signal _ f q))
      ∙ value_looked l (content_signal l) s x a t (n - x.base) z h.entries (seeks_covered l (content_signal l) s x t n z h.entries k e)
      (content_signal l) (λ v. v) (word_signal l a) (λ j. refl) (word_is l a s x.words i h.words) ready;
}

-- such a look keeps the law of a look with the ticket of a cycle's second reservation
pub late_law : (l : RingLayout) (u : Kind) (a t : Signal) → IsSized l
    → is_some l.array ≡ true
    → LateLookLaw (Stands l) Bypass l.size l.ticket u a t (youngest_look u (youngest_ready l a t))
    (Some (youngest_value l (content_signal l) (word_signal l a) a t))
late_law l u a t z i = record {
  answers =
      λ two s x h e. picks l u a t s x (length x.entries) z h.entries (seeks_late l (content_signal l) s x t z h.entries two e)
      ∙ ap (λ zs. ready_of u zs (a.value s)) (all_older x) ∙ ready_is u x (next_ticket x + 1) (a.value s);
  gives = λ two f q s x h e fit ready.
      ap (λ (g : Signal). g.value s) (sym (same_signal _ f q))
      ∙ value_looked l (content_signal l) s x a t (length x.entries) z h.entries (seeks_late l (content_signal l) s x t z h.entries two e)
      (content_signal l) (λ v. v) (word_signal l a) (λ j. refl) (word_is l a s x.words i h.words)
      (ap (λ zs. is_some (youngest zs (a.value s) (Some 0))) (all_older x) ∙ ready)
      ∙ ap (λ zs. or_zero (youngest zs (a.value s) (Some (slice_index x.words (a.value s))))) (all_older x);
}
