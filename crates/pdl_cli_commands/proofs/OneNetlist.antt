-- A text gives one netlist to run, or one refusal.
use Rattle.std.proofs.Common.{◌≡◌, ℕ, List, Ok, Err}
use Rattle.pdl_kit.specs.declared.rule.Rule.{Rule}
use Rattle.pdl_net.specs.declared.Netlist.{Netlist}
use Rattle.pdl_vread.specs.declared.read.VError.TheVariants.{Refused}
use Rattle.pdl_vread.specs.Reads.{Reads, Breaks}
use Rattle.pdl_vread.proofs.Verdicts.{gives_netlist, gives_refusal}

-- a text reads as one netlist at most
pub one_netlist : (text : List ℕ) (n m : Netlist) → Reads text n → Reads text m → n ≡ m
one_netlist text n m r s = gives_netlist text (Ok n) m r s

-- a text that reads as a netlist breaks no rule
pub read_right : (text : List ℕ) (n : Netlist) (rule : Rule) (line : ℕ) → Reads text n → Breaks text rule line → ⊥
read_right text n rule line r b = gives_refusal text (Ok n) rule line r b

-- a text that reads as no netlist breaks one rule first, at one line
pub one_netlist_refusal : (text : List ℕ) (r s : Rule) (n m : ℕ) → Breaks text r n → Breaks text s m → (r ≡ s) × (n ≡ m)
one_netlist_refusal text r s n m a b = gives_refusal text (Err (Refused r n)) s m a b
