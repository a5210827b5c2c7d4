-- What `==` says of nets and cells.
use Rattle.std.proofs.Common.{◌≡◌, Bool, ◌&&◌, rules}
use Rattle.std.specs.Bool.{Decides}
use Rattle.std.proofs.lemmas.Bool.Decides.{Decides-and, Decides-like}
use Rattle.pdl_net.specs.declared.Net.{Net}
use Rattle.pdl_net.specs.declared.BinOp.{BinOp}
use Rattle.pdl_net.specs.declared.Cell.{Cell}
use Rattle.pdl_net.specs.declared.Cell.TheVariants.{Const, Not, Bin, Mux, Slice, Cat, Rep, Read}
use Rattle.pdl_net.specs.contracts.NetPartialEq.TheImpl as net
use Rattle.pdl_net.specs.contracts.BinOpPartialEq.TheImpl as op
use Rattle.pdl_net.specs.contracts.CellPartialEq.TheImpl as cell

-- `==` of two nets passes where they are equal, and fails where they are not
pub net_equal : (x y : Net) → Decides (net.ghosts.eq x y) (x ≡ y)
net_equal x y = search rules

op_equal : (x y : BinOp) → Decides (op.ghosts.eq x y) (x ≡ y)
op_equal x y = search rules

-- three tests that decide what a fact says decide the fact
three_equal : {P Q R S : Type 0} (x y z : Bool) → (P × (Q × R) → S) → (S → P × (Q × R)) → Decides x P → Decides y Q
    → Decides z R → Decides (x && (y && z)) S
three_equal x y z to from p q r =
    Decides-like (x && (y && z)) to from (Decides-and x (y && z) p (Decides-and y z q r))

bin_equal : (o : BinOp) (a b : Net) (y : Cell) → Decides (cell.ghosts.eq (Bin o a b) y) (Bin o a b ≡ y)
bin_equal o a b (Bin p x y) =
    three_equal _ _ _ (λ h. cc) (λ h. (cc, (cc, cc))) (op_equal o p) (net_equal a x) (net_equal b y)
bin_equal o a b (Const w v) = search rules
bin_equal o a b (Not x) = search rules
bin_equal o a b (Mux c x y) = search rules
bin_equal o a b (Slice x high low) = search rules
bin_equal o a b (Cat x y) = search rules
bin_equal o a b (Rep k x) = search rules
bin_equal o a b (Read m x) = search rules

mux_equal : (c a b : Net) (y : Cell) → Decides (cell.ghosts.eq (Mux c a b) y) (Mux c a b ≡ y)
mux_equal c a b (Mux d x y) =
    three_equal _ _ _ (λ h. cc) (λ h. (cc, (cc, cc))) (net_equal c d) (net_equal a x) (net_equal b y)
mux_equal c a b (Const w v) = search rules
mux_equal c a b (Not x) = search rules
mux_equal c a b (Bin o x y) = search rules
mux_equal c a b (Slice x high low) = search rules
mux_equal c a b (Cat x y) = search rules
mux_equal c a b (Rep k x) = search rules
mux_equal c a b (Read m x) = search rules

-- `==` of two cells passes where they are equal, and fails where they are not
pub cell_equal : (x y : Cell) → Decides (cell.ghosts.eq x y) (x ≡ y)
cell_equal (Const w v) y = search rules
cell_equal (Not a) y = search (rules, net_equal)
cell_equal (Bin o a b) y = bin_equal o a b y
cell_equal (Mux c a b) y = mux_equal c a b y
cell_equal (Slice a high low) y = search (rules, net_equal)
cell_equal (Cat a b) y = search (rules, net_equal)
cell_equal (Rep k a) y = search (rules, net_equal)
cell_equal (Read m a) y = search (rules, net_equal)
