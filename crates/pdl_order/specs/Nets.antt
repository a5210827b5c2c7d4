-- The nets of an order as signals.
use Rattle.std.specs.Prelude.{◌≡◌, ◌+◌}
use Rattle.pdl_net.specs.declared.BinOp.TheVariants.{Add, Shr, Eq}
use Rattle.pdl_net.specs.Circuit.{Circuit}
use Rattle.pdl_net.specs.Signal.{Signal, reg_signal, const_signal, bin_signal, mux_signal, slice_signal}
use Rattle.pdl_net.specs.Meaning.{next_signal}
use Rattle.pdl_net.specs.Growth.{Own}
use Rattle.pdl_order.specs.declared.layout.OrderLayout.{OrderLayout}
use Rattle.pdl_order.specs.Laws.{StepSignals}
use Rattle.pdl_order.specs.Words.{sides_at}

-- the word of ones, one for each thread inside, as its register holds it
abbrev pub used_signal : OrderLayout → Signal
used_signal l = reg_signal l.stages l.from

-- the word of the branches, as its register holds it
abbrev pub sides_signal : OrderLayout → Signal
sides_signal l = reg_signal l.stages (sides_at l)

-- no thread is inside; the oldest took the first branch
abbrev pub empty_signal : OrderLayout → Signal
empty_signal l = bin_signal Eq (used_signal l) (const_signal l.stages 0)

-- whether the oldest thread took the first branch: the lowest bit of the word of the branches
abbrev pub first_signal : OrderLayout → Signal
first_signal l = slice_signal 0 0 (sides_signal l)

-- a word without its lowest bit where the oldest thread leaves
abbrev pub left_signal : OrderLayout → StepSignals → Signal → Signal
left_signal l f g = mux_signal f.left (bin_signal Shr g (const_signal l.stages 1)) g

-- the word of ones, without the oldest thread's where that leaves
abbrev pub used_left : OrderLayout → StepSignals → Signal
used_left l f = left_signal l f (used_signal l)

-- the word of the branches, without the oldest thread's where that leaves
abbrev pub sides_left : OrderLayout → StepSignals → Signal
sides_left l f = left_signal l f (sides_signal l)

-- the bit above the ones: that of a thread that comes in
abbrev pub place_signal : OrderLayout → StepSignals → Signal
place_signal l f = bin_signal Add (used_left l f) (const_signal l.stages 1)

-- a word with that bit
abbrev pub more_signal : OrderLayout → StepSignals → Signal → Signal
more_signal l f g = bin_signal Add g (place_signal l f)

-- the words with the thread that comes in
abbrev pub used_entered : OrderLayout → StepSignals → Signal
used_entered l f = mux_signal f.entered_first (more_signal l f (used_left l f)) (mux_signal f.entered_second (more_signal l f (used_left l f)) (used_left l f))

-- the word of the branches, with a 1 for a thread that comes into the first branch
abbrev pub sides_entered : OrderLayout → StepSignals → Signal
sides_entered l f = mux_signal f.entered_first (more_signal l f (sides_left l f)) (sides_left l f)

-- what the registers take next: nothing is left where all are removed
abbrev pub next_used : OrderLayout → StepSignals → Signal
next_used l f = mux_signal f.emptied (const_signal l.stages 0) (used_entered l f)

-- what the register of the branches takes next: 0 where all threads are removed
abbrev pub next_sides : OrderLayout → StepSignals → Signal
next_sides l f = mux_signal f.emptied (const_signal l.stages 0) (sides_entered l f)

-- what the registers take next is that
pub record NextWords (c : Circuit) (l : OrderLayout) (f : StepSignals) : Type 0 where
  pub used : next_signal c l.from ≡ next_used l f
  pub sides : next_signal c (sides_at l) ≡ next_sides l f

-- the two registers
abbrev pub own_words : OrderLayout → Own
own_words l = record { from = l.from; to = l.from + 2; first = 0; last = 0 }
