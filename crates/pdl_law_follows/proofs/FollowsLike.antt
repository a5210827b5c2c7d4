-- What follows a pipe by what is seen of it: a netlist that shows the same follows it too.
use Rattle.std.proofs.Common.{◌≡◌, ℕ, List, map, ap, ◌∙◌, subst}
use Rattle.pdl_semantics.specs.Tree as tree
use Rattle.pdl_net.specs.declared.Netlist.{Netlist}
use Rattle.pdl_net.specs.Circuit.{shape_of}
use Rattle.pdl_net.specs.Pipe.{head_of, IsWellFormed}
use Rattle.pdl_net.specs.Run.{nports}
use Rattle.pdl_image.specs.Images.{IsImage}
use Rattle.pdl_law_parts.specs.Runs.{seen_of}
use Rattle.pdl_law_follows.specs.Follows.{Follows}

-- a well-formed netlist with the same name, ports, memories and arrays that shows the same in each cycle
pub follows_like : (p : tree.Pipe) (n q : Netlist) → IsWellFormed q
    → q.name ≡ n.name → map head_of q.ports ≡ map head_of n.ports → q.mems ≡ n.mems
    → map shape_of q.arrays ≡ map shape_of n.arrays
    → ((image : List (List ℕ)) (schedule : List ℕ) → nports q image schedule ≡ nports n image schedule) → Follows p n
    → Follows p q
follows_like p n q well name ports mems arrays shows f = record {
  name = name ∙ f.name;
  well_formed = well;
  ports = ports ∙ f.ports;
  mems = mems ∙ f.mems;
  arrays = arrays ∙ f.arrays;
  shows = λ image schedule is_image. ap (map seen_of) (shows image schedule) ∙ f.shows image schedule (subst (λ ms. IsImage ms image) mems is_image);
}
