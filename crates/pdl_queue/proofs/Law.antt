-- The law of a queue's look.
use Rattle.std.proofs.Common.{◌≡◌, ◌+◌, ◌-◌, ◌∙◌, sym, ap, length}
use Rattle.std.specs.Prelude.{Some, Option, slice_index, option_map}
use Rattle.pdl_word.specs.Words.{bit}
use Rattle.pdl_semantics.specs.Tree.{Queue}
use Rattle.pdl_net.specs.declared.Net.{Net}
use Rattle.pdl_net.specs.Circuit.{Circuit}
use Rattle.pdl_net.specs.Meaning.{signal}
use Rattle.pdl_net.specs.Signal.{Signal}
use Rattle.pdl_lockapi.specs.declared.Kind.{Kind}
use Rattle.pdl_lockapi.specs.Lock.{or_zero, older, is_free, next_ticket}
use Rattle.pdl_lockapi.specs.Laws.{LookLaw}
use Rattle.pdl_lockapi.specs.Second.{LateLookLaw}
use Rattle.pdl_lock_ring.specs.declared.layout.RingLayout.{RingLayout}
use Rattle.pdl_lock_ring.specs.Slots.{IsSized, Stands, content_signal}
use Rattle.pdl_lock_ring.specs.Looks.{ready_signal, GivesWord}
use Rattle.pdl_lock_ring.proofs.LookMeanings.{seeks_covered, seeks_late}
use Rattle.pdl_lock_ring.proofs.LookValues.{free_looked, free_youngest, all_older, word_given}

-- a look of a queue keeps its law, where its value is the array's word at the address
pub look_law : (c : Circuit) (l : RingLayout) (u : Kind) (a t : Signal) (v : Option Net) → IsSized l → GivesWord c l a v
    → LookLaw (Stands l) Queue l.ticket u a t (ready_signal l a t) (option_map (signal c) v)
look_law c l u a t v z g = record {
  answers = λ s x n h k e. free_looked l (content_signal l) s x a t (n - x.base) z h.entries (seeks_covered l (content_signal l) s x t n z h.entries k e);
  gives = λ f i s x n h k e fit ready.
      word_given c l a v f s x.words g i h.words ∙ sym (ap or_zero (free_youngest (older x n) (a.value s) (Some (slice_index x.words (a.value s))) ready));
}

-- a late look of a queue keeps its law, where its value is the array's word at the address
pub late_law : (c : Circuit) (l : RingLayout) (u : Kind) (a t : Signal) (v : Option Net) → IsSized l → GivesWord c l a v
    → LateLookLaw (Stands l) Queue l.size l.ticket u a t (ready_signal l a t) (option_map (signal c) v)
late_law c l u a t v z g = record {
  answers =
      λ two s x h e. free_looked l (content_signal l) s x a t (length x.entries) z h.entries (seeks_late l (content_signal l) s x t z h.entries two e)
      ∙ ap (λ zs. bit (is_free zs (a.value s))) (all_older x);
  gives = λ two f i s x h e fit ready.
      word_given c l a v f s x.words g i h.words
      ∙ sym (ap or_zero (free_youngest (older x (next_ticket x + 1)) (a.value s) (Some (slice_index x.words (a.value s))) ready));
}
