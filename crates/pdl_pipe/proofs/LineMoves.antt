-- A line with its moves in place of none.
use Rattle.std.proofs.Common.{◌≡◌, ◌<◌, ℕ, refl, sym, ap, ◌∙◌, subst, length, List}
use Rattle.std.specs.Prelude.{Option, Some, None, is_some}
use Rattle.std.proofs.lemmas.Bool.{false≢true}
use Rattle.pdl_word.specs.Each.{Each}
use Rattle.pdl_semantics.specs.Flat.{Pipe}
use Rattle.pdl_semantics.specs.Stages.{stage_at}
use Rattle.pdl_net.specs.Circuit.{Circuit}
use Rattle.pdl_order.specs.declared.OrderRegs.{OrderRegs}
use Rattle.pdl_pipe_walk.specs.declared.locks.MemLock.{MemLock}
use Rattle.pdl_pipe_walk.specs.Locked.{Members, some_at}
use Rattle.pdl_pipe_answers.specs.Ports.{IsBit}
use Rattle.pdl_pipe_beside.specs.Orders.{StandOrders}
use Rattle.pdl_pipe_beside.proofs.OrderParts.{is_merged_by}
use Rattle.pdl_pipe_nexts.specs.declared.line.StageLine.{StageLine}
use Rattle.pdl_pipe_nexts.specs.Lines.{IsLineIn}
use Rattle.pdl_pipe_emitted.specs.pipe_moves.declared.whole.MoveNets.{MoveNets}
use Rattle.pdl_pipe_emitted.specs.pipe_moves.Gates.{HasTurns, IsOrderThere}
use Rattle.pdl_pipe_emitted.specs.pipe_moves.Passed.{AreMoved}
use Rattle.pdl_pipe_emitted.specs.Emitted.{IsLayout}

-- each merge has the order of its fork
pub has_turns : (c : Circuit) (p : Pipe) (rs : List (Option OrderRegs))
    → ((q i : ℕ) → q < length p.stages → (stage_at p q).merges ≡ Some i → i < length p.stages) → StandOrders c p rs
    → HasTurns c p rs
has_turns c p rs forks h q i low is = (subst (λ n. i < n) (sym h.count) (forks q i low is), there (some_at rs i) refl)
  where
    there : (o : Option OrderRegs) → some_at rs i ≡ o → IsOrderThere c o
    there None e = absurd (false≢true (ap is_some (sym e) ∙ h.some i (forks q i low is) ∙ is_merged_by p i q is))
    there (Some r) e = (h.each i r (forks q i low is) e).nets

-- one line in place of another, of the same stages
pub line_with : (c : Circuit) (x y : StageLine) → IsLineIn c x
    → length y.moves.now ≡ length x.stages.now → Each (IsBit c) y.moves.now → length y.kills.now ≡ length x.stages.now
    → Each (IsBit c) y.kills.now → IsLineIn c (record y { pipe = x.pipe; shared = x.shared; stages = x.stages })
line_with c x y h m ms k ks = record {
  shared = h.shared;
  count = h.count;
  stages = h.stages;
  moves_count = m;
  moves = ms;
  kills_count = k;
  kills = ks;
  forks = h.forks;
  params = h.params;
}

-- a line is laid out as before with the moves and removals of another line in it
pub layout_with : {T : Type 0} (l : Members T) (a : Circuit) (x y : StageLine) (xs : List (Option (MemLock T)))
    (rs : List (Option OrderRegs)) (low mid high : ℕ)
    → IsLayout l a x xs rs low mid high
    → IsLayout l a (record y { pipe = x.pipe; shared = x.shared; stages = x.stages }) xs rs low mid high
layout_with l a x y xs rs low mid high h = record {
  shared = h.shared;
  next = h.next;
  staged = h.staged;
  count = h.count;
  apart = h.apart;
  locked = h.locked;
  lawful = h.lawful;
  unwritten = h.unwritten;
  locks_to = h.locks_to;
  stand_ports = h.stand_ports;
  ports_from = h.ports_from;
  ports_to = h.ports_to;
  stand_orders = h.stand_orders;
  orders_from = h.orders_from;
  orders_to = h.orders_to;
  order = h.order;
  reply = h.reply;
  word = h.word;
  inputs = h.inputs;
  shapes = h.shapes;
}

-- the moves of a line are its moves as well with the moves and removals of another line in it
pub moved_with : (c : Circuit) (x y : StageLine) (rs : List (Option OrderRegs)) (z : MoveNets) → AreMoved c x rs z
    → AreMoved c (record y { pipe = x.pipe; shared = x.shared; stages = x.stages }) rs z
moved_with c x y rs z h = record {
  passed = record {
    moves_count = h.passed.moves_count;
    moves = h.passed.moves;
    frees_count = h.passed.frees_count;
    frees = h.passed.frees;
    each = λ k l m. let e = h.passed.each k l m in record { moves = e.moves; free = e.free };
  };
  squash = h.squash;
  squashes = h.squashes;
  kills_count = h.kills_count;
  kills = h.kills;
  clear_count = h.clear_count;
  clear = h.clear;
  removed = h.removed;
  cleared = h.cleared;
  law = h.law;
  cleared_is = h.cleared_is;
  either = h.either;
  joined = h.joined;
}
