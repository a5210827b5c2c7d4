-- What the winner of a look holds, as nets.
use Rattle.std.specs.Prelude.{◌≡◌, ℕ}
use Rattle.pdl_net.specs.Circuit.{Circuit}
use Rattle.pdl_net.specs.declared.BinOp.TheVariants.{Or}
use Rattle.pdl_net.specs.Signal.{Signal, bin_signal}
use Rattle.pdl_net.specs.Meaning.{Means, signal}
use Rattle.pdl_lock_ring.specs.declared.layout.RingLayout.{RingLayout}
use Rattle.pdl_lock_ring.specs.declared.youngest.Won.{Won}
use Rattle.pdl_lock_ring.specs.Slots.{content_signal}
use Rattle.pdl_lock_ring.specs.Choices.{either_signal}
use Rattle.pdl_lock_ring.specs.Looks.{has_signal, won_at}

-- what the winner of the 2 ^ b slots from this one on holds, where it is one of these
pub record IsWon (c : Circuit) (l : RingLayout) (hits : Signal) (b from : ℕ) (x : Won) : Type 0 where
  pub has : Means c x.has (either_signal (won_at l (has_signal l) 1 hits) b from)
  pub content : Means c x.content (either_signal (won_at l (content_signal l) l.kept hits) b from)
  pub has_wide : (signal c x.has).width ≡ 1
  pub content_wide : (signal c x.content).width ≡ l.kept

-- what two winners hold, one of which is 0, bit by bit
pub record IsEither (a c : Circuit) (low high z : Won) : Type 0 where
  pub has : Means c z.has (bin_signal Or (signal a high.has) (signal a low.has))
  pub content : Means c z.content (bin_signal Or (signal a high.content) (signal a low.content))
