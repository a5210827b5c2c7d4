-- The laws of a look of a renaming lock.
use Rattle.std.proofs.Common.{◌≡◌, ℕ, zero, suc, ◌+◌, ◌-◌, ◌^◌, ◌<◌, List, length, take, refl, sym, ap, ◌∙◌, subst}
use Rattle.std.specs.Prelude.{◌==◌, if◌then◌else◌, Bool, true, false, Some, is_some, slice_index}
use Rattle.pdl_word.specs.Words.{bit}
use Rattle.pdl_semantics.specs.Tree.{Rename}
use Rattle.pdl_net.specs.Circuit.{State}
use Rattle.pdl_net.specs.Signal.{Signal, const_value, read_value}
use Rattle.pdl_lockapi.specs.declared.Kind.{Kind}
use Rattle.pdl_lockapi.specs.declared.Kind.TheVariants.{R, W}
use Rattle.pdl_lockapi.specs.Lock.{Entry, LockState, or_zero, youngest, older, next_ticket, look_ready}
use Rattle.pdl_lockapi.specs.Laws.{LookLaw}
use Rattle.pdl_lockapi.specs.Second.{LateLookLaw}
use Rattle.pdl_lock_ring.specs.Slots.{HasEntries, content_signal}
use Rattle.pdl_lock_ring.specs.Looks.{youngest_look, youngest_ready, youngest_value}
use Rattle.pdl_lock_ring.proofs.LookMeanings.{Seeks, seeks_covered, seeks_late}
use Rattle.pdl_lock_ring.proofs.LookValues.{youngest_looked, value_looked, all_older, same_signal}
use Rattle.pdl_rename.specs.declared.layout.Layout.{Layout}
use Rattle.pdl_rename.specs.Places.{IsRenaming, Stands, store_of, placed_signal}
use Rattle.pdl_rename.specs.Nets.{mapped_place, found_word}
use Rattle.pdl_rename.proofs.ChoiceWidths.{mapped_is}

-- what the array has at a place
abbrev reads : Layout → State → ℕ → ℕ
reads l s n = slice_index (store_of l s) n

placed_is : (l : Layout) (s : State) (j : ℕ) → reads l s ((content_signal l.slots j).value s) ≡ (placed_signal l j).value s
unfolding read_value
placed_is l s j = refl

found_is : (l : Layout) (a t : Signal) (s : State)
    → (found_word l a t).value s ≡ reads l s ((youngest_value l.slots (content_signal l.slots) (mapped_place l a) a t).value s)
unfolding read_value
found_is l a t s = refl

word_is : (l : Layout) → IsRenaming l → (a : Signal) (s : State) (x : LockState) → Stands l s x
    → a.value s < l.depth
    → reads l s ((mapped_place l a).value s) ≡ slice_index x.words (a.value s)
word_is l z a s x h lt = ap (slice_index (store_of l s)) (mapped_is l z a s lt) ∙ h.words (a.value s) lt

-- whether a look is ready, by what the youngest of these says
abbrev ready_of : Kind → List Entry → ℕ → ℕ
ready_of R es a = bit (is_some (youngest es a (Some 0)))
ready_of W es a = bit true

picks : (l : Layout) (u : Kind) (a t : Signal) (s : State) (x : LockState) (d : ℕ) → IsRenaming l
    → HasEntries l.slots (placed_signal l) s x → Seeks l.slots s x t d
    → (youngest_look u (youngest_ready l.slots a t)).value s ≡ ready_of u (take d x.entries) (a.value s)
unfolding const_value
picks l R a t s x d z h k = youngest_looked l.slots (placed_signal l) s x a t d z.sized h k
picks l W a t s x d z h k = refl

ready_is : (u : Kind) (x : LockState) (t a : ℕ) → ready_of u (older x t) a ≡ bit (look_ready Rename u x t a)
ready_is R x t a = refl
ready_is W x t a = refl

fits_in : (l : Layout) → IsRenaming l → (a : Signal) (s : State) → a.width ≡ l.slots.bits → a.value s < 2 ^ a.width → a.value s < l.depth
fits_in l z a s w fit = subst (λ d. a.value s < d) (ap (λ n. 2 ^ n) w ∙ sym z.depth) fit

-- the renaming lock's look keeps the law of looks, with the word that the found place has
pub look_law : (l : Layout) (u : Kind) (a t : Signal) → IsRenaming l → a.width ≡ l.slots.bits
    → LookLaw (Stands l) Rename l.slots.ticket u a t (youngest_look u (youngest_ready l.slots a t)) (Some (found_word l a t))
look_law l u a t z v = record {
  answers =
      λ s x n h k e. picks l u a t s x (n - x.base) z h.entries (seeks_covered l.slots (placed_signal l) s x t n z.sized h.entries k e)
      ∙ ready_is u x n (a.value s);
  gives = λ f q s x n h k e fit ready.
      ap (λ (g : Signal). g.value s) (sym (same_signal _ f q))
      ∙ found_is l a t s
      ∙ value_looked l.slots (placed_signal l) s x a t (n - x.base) z.sized h.entries (seeks_covered l.slots (placed_signal l) s x t n z.sized h.entries k e)
      (content_signal l.slots) (reads l s) (mapped_place l a) (placed_is l s) (word_is l z a s x h (fits_in l z a s v fit)) ready;
}

-- the renaming lock's look keeps the law of late looks too, asked with the ticket after the next one
pub late_law : (l : Layout) (u : Kind) (a t : Signal) → IsRenaming l → a.width ≡ l.slots.bits
    → LateLookLaw (Stands l) Rename l.slots.size l.slots.ticket u a t (youngest_look u (youngest_ready l.slots a t)) (Some (found_word l a t))
late_law l u a t z v = record {
  answers =
      λ two s x h e. picks l u a t s x (length x.entries) z h.entries (seeks_late l.slots (placed_signal l) s x t z.sized h.entries two e)
      ∙ ap (λ zs. ready_of u zs (a.value s)) (all_older x) ∙ ready_is u x (next_ticket x + 1) (a.value s);
  gives = λ two f q s x h e fit ready.
      ap (λ (g : Signal). g.value s) (sym (same_signal _ f q))
      ∙ found_is l a t s
      ∙ value_looked l.slots (placed_signal l) s x a t (length x.entries) z.sized h.entries
      (seeks_late l.slots (placed_signal l) s x t z.sized h.entries two e)
      (content_signal l.slots) (reads l s) (mapped_place l a) (placed_is l s) (word_is l z a s x h (fits_in l z a s v fit))
      (ap (λ zs. is_some (youngest zs (a.value s) (Some 0))) (all_older x) ∙ ready)
      ∙ ap (λ zs. or_zero (youngest zs (a.value s) (Some (slice_index x.words (a.value s))))) (all_older x);
}
