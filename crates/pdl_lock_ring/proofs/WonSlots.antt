-- The winners of two halves, and that of both.
use Rattle.std.proofs.Common.{◌≢◌, ℕ, ◌+◌, ◌-◌, ◌^◌, sym, ap, ◌∙◌}
use Rattle.pdl_net.specs.declared.BinOp.TheVariants.{Or}
use Rattle.pdl_net.specs.Circuit.{Circuit}
use Rattle.pdl_net.specs.Signal.{Signal}
use Rattle.pdl_net.specs.Growth.{Keeps}
use Rattle.pdl_net.proofs.Keeps.{means_keeps}
use Rattle.pdl_lock_ring.specs.declared.layout.RingLayout.{RingLayout}
use Rattle.pdl_lock_ring.specs.declared.youngest.Won.{Won}
use Rattle.pdl_lock_ring.specs.Slots.{content_signal}
use Rattle.pdl_lock_ring.specs.Looks.{has_signal, won_at}
use Rattle.pdl_lock_ring.specs.Seeks.{IsWon, IsEither}
use Rattle.pdl_lock_ring.proofs.RingGrowth.{means_as, same_bin, wide_later}
use Rattle.pdl_lock_ring.proofs.Trees.{either_more}

-- the nets of what the winner holds stay in a circuit that keeps what it had
pub won_keep : (a b : Circuit) (l : RingLayout) (hits : Signal) (n from : ℕ) (x : Won)
    → IsWon a l hits n from x → Keeps a b → IsWon b l hits n from x
won_keep a b l hits n from x i y = record {
  has = means_keeps a b x.has _ y i.has;
  content = means_keeps a b x.content _ y i.content;
  has_wide = wide_later a b x.has _ 1 y i.has i.has_wide;
  content_wide = wide_later a b x.content _ l.kept y i.content i.content_wide;
}

-- what the winners of two halves hold is what that of both does
pub won_more : (a c : Circuit) (l : RingLayout) (hits : Signal) (b from : ℕ) (low high z : Won) → b ≢ 0
    → IsWon a l hits (b - 1) from low → IsWon a l hits (b - 1) (from + 2 ^ (b - 1)) high → IsEither a c low high z
    → IsWon c l hits b from z
won_more a c l hits b from low high z some x y n = record {
  has =
      means_as c z.has _ _ n.has
      (same_bin Or _ _ _ _ y.has.same x.has.same ∙ sym (either_more (won_at l (has_signal l) 1 hits) b from some));
  content =
      means_as c z.content _ _ n.content
      (same_bin Or _ _ _ _ y.content.same x.content.same ∙ sym (either_more (won_at l (content_signal l) l.kept hits) b from some));
  has_wide = ap (λ (g : Signal). g.width) n.has.same ∙ y.has_wide;
  content_wide = ap (λ (g : Signal). g.width) n.content.same ∙ y.content_wide;
}
