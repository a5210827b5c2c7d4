-- The widths of a renaming lock's choices, and what they give.
use Rattle.std.proofs.Common.{◌≡◌, ◌-◌, ◌%◌, ◌^◌, ◌<◌, refl, ap, ◌∙◌, arith}
use Rattle.std.proofs.Math.Nat.{mod-eq_of_lt}
use Rattle.pdl_net.specs.Circuit.{State}
use Rattle.pdl_net.specs.Signal.{Signal, reg_value}
use Rattle.pdl_lockapi.specs.Laws.{StepSignals}
use Rattle.pdl_lock_ring.specs.Slots.{content_signal, reg_of}
use Rattle.pdl_lock_ring.specs.Looks.{youngest_value}
use Rattle.pdl_lock_ring.specs.Registers.{register_of}
use Rattle.pdl_lock_ring.proofs.Trees.{selected_width, selected_value}
use Rattle.pdl_lock_ring.proofs.LookValues.{won_width}
use Rattle.pdl_rename.specs.declared.layout.Layout.{Layout}
use Rattle.pdl_rename.specs.Places.{IsRenaming, map_at, word_place}
use Rattle.pdl_rename.specs.Nets.{registers_of_map, registers_of_places, mapped_place, ticket_place, stored_signal}

-- the place of an address's word has the bits of a place
pub mapped_width : (l : Layout) (d : Signal) → (mapped_place l d).width ≡ l.slots.kept
mapped_width l d = selected_width (register_of (registers_of_map l)) d l.slots.kept (λ k. refl) l.slots.bits 0

-- the place that a ticket's slot holds has the bits of a place
pub placed_width : (l : Layout) (d : Signal) → (ticket_place l d).width ≡ l.slots.kept
placed_width l d = selected_width (register_of (registers_of_places l)) d l.slots.kept (λ k. refl) (l.slots.ticket - 1) 0

-- the place that a look finds has the bits of a place
pub found_width : (l : Layout) (o a t : Signal) → (youngest_value l.slots (content_signal l.slots) o a t).width ≡ l.slots.kept
found_width l o a t = won_width l.slots (content_signal l.slots) l.slots.kept a t (λ k. refl)

pub ruleset widths = (mapped_width, placed_width, found_width)

-- the place that the map has for an address
pub mapped_is : (l : Layout) → IsRenaming l → (a : Signal) (s : State)
    → a.value s < l.depth → (mapped_place l a).value s ≡ word_place l s (a.value s)
unfolding reg_value
mapped_is l z a s h =
    selected_value (register_of (registers_of_map l)) a s l.slots.bits 0
    ∙ ap (λ n. reg_of s (map_at l n)) (let e : a.value s % 2 ^ l.slots.bits ≡ a.value s = mod-eq_of_lt (omega (arith, z.depth, h)) in omega (arith, e))

-- equal write ports, places and slots give the same word of a slot
pub same_stored : (l : Layout) (f g : StepSignals) (place place' slot slot' : Signal)
    → f ≡ g → place ≡ place' → slot ≡ slot' → stored_signal l f place slot ≡ stored_signal l g place' slot'
same_stored l f g place place' slot slot' e h i = cc
