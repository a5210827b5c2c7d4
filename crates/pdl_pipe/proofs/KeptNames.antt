-- The names of a netlist's needed part.
use Rattle.std.proofs.Common.{◌≡◌, refl, sym, ap, ◌∙◌, subst, ℕ, ◌+◌, ◌<◌, Bool, true, false, List, [], ◌∷◌, ◌++◌, length, drop, get_or, cond, arith}
use Rattle.std.proofs.lemmas.List.{append_assoc, append-nil, drop_more}
use Rattle.pdl_word.specs.Each.{Each}
use Rattle.pdl_semantics.specs.Tree as tree
use Rattle.pdl_semantics.specs.Flatten.{flat}
use Rattle.pdl_net.specs.declared.Net.{Net}
use Rattle.pdl_net.specs.declared.Net.TheVariants.{Input, Reg as RegNet, Cell as CellNet}
use Rattle.pdl_net.specs.declared.Netlist.{Netlist}
use Rattle.pdl_net.specs.Circuit.{circuit_of}
use Rattle.pdl_net.specs.Meaning.{IsThere}
use Rattle.pdl_net.specs.Run.{Held, start, next}
use Rattle.pdl_net.specs.Well.{IsWell}
use Rattle.pdl_net_needed.specs.Needed.{Choice, IsKept, is_kept, KeepsNeeded}
use Rattle.pdl_net_needed.specs.Pruned.{moved_net, pruned}
use Rattle.pdl_net_needed.specs.Marks.{IsWithin}
use Rattle.pdl_net_needed.proofs.ClosedChoices.{IsClosed, closed}
use Rattle.pdl_net_needed.proofs.PrunedParts.{there_same}
use Rattle.pdl_net_needed.proofs.PrunedOutputs.{IsSameHeld, next_same, start_same, value_kept}
use Rattle.pdl_law_parts.specs.Places.{delayed_count}
use Rattle.pdl_law_parts.specs.States.{held_after}
use Rattle.pdl_law_sides.specs.WholeNetlist.{replies_of}
use Rattle.pdl_law_follows.specs.Refined.{machine_after}
use Rattle.pdl_pipe_registers.proofs.Lists.{each_map}
use Rattle.pdl_pipe.specs.declared.names.NamedNet.{NamedNet}
use Rattle.pdl_pipe.specs.Names.{value_after, IsShown, IsName, names_kept, AreAllNames, AreNames}

module _ (k : Choice) (n : Netlist) (h : IsClosed (circuit_of n) k) (well : IsWell (circuit_of n)) where
  -- a netlist and its needed part hold the same after a schedule, but for the registers that aren't kept
  pub held_same : (a b : Held) (schedule : List ℕ) → IsSameHeld k a b → IsSameHeld k (held_after n a schedule) (held_after (pruned k n) b schedule)
  held_same a b [] t = t
  held_same a b (bits ∷ schedule) t = held_same (next n a bits) (next (pruned k n) b bits) schedule (next_same k n h well a b bits t)

  -- a kept net has one value in both
  same_after : (image : List (List ℕ)) (schedule : List ℕ) (bits : ℕ) (x : Net) → IsThere (circuit_of n) x → IsKept k x
      → value_after (pruned k n) image schedule bits (moved_net k x) ≡ value_after n image schedule bits x
  same_after image schedule bits x there kept =
      value_kept k n h well (held_after n (start n image) schedule) (held_after (pruned k n) (start (pruned k n) image) schedule) bits
      (held_same (start n image) (start (pruned k n) image) schedule (start_same k n image)) x there kept

  -- a kept net is named in the needed part for what it shows, by its new number
  name_kept : (p : tree.Pipe) (x : NamedNet) → IsName p n x → IsKept k x.net
      → IsName p (pruned k n) (record { net = moved_net k x.net; role = x.role })
  name_kept p x it kept = record {
    there = there_same k n h well.cells x.net it.there kept;
    live = it.live;
    shows = λ image schedule bits is_image.
        subst (IsShown (flat p) (machine_after (flat p) image schedule) (replies_of (delayed_count (flat p)) bits) x.role)
        (sym (same_after image schedule bits x.net it.there kept)) (it.shows image schedule bits is_image);
  }

  -- so are all that are kept
  pub all_kept : (p : tree.Pipe) (names : List NamedNet) → Each (IsName p n) names → Each (IsName p (pruned k n)) (names_kept k names)
  all_kept p [] each = tt
  all_kept p (x ∷ xs) each = at (is_kept k x.net) refl (all_kept p xs each.1)
    where
      at : (b : Bool) → is_kept k x.net ≡ b → Each (IsName p (pruned k n)) (names_kept k xs)
          → Each (IsName p (pruned k n)) (cond b (record { net = moved_net k x.net; role = x.role } ∷ names_kept k xs) (names_kept k xs))
      at true e rest = (name_kept p x each.0 e, rest)
      at false e rest = rest

-- a net that is there has a mark, where each register and each cell has one
within_of : (n : Netlist) (k : Choice) → KeepsNeeded (circuit_of n) k → (x : Net) → IsThere (circuit_of n) x → IsWithin k x
unfolding IsThere
within_of n k h (Input i) l = tt
within_of n k h (RegNet r) l = omega (arith, h.reg_count, l)
within_of n k h (CellNet j) l = omega (arith, h.cell_count, l)

-- so have all nets with a name
pub names_within : (p : tree.Pipe) (n : Netlist) (k : Choice) (names : List NamedNet) → AreAllNames p n names
    → KeepsNeeded (circuit_of n) k → Each (λ x. IsWithin k x.net) names
names_within p n k names all needed =
    each_map (IsName p n) (λ (x : NamedNet). IsWithin k x.net) names (λ x it. within_of n k needed x.net it.there) all.each

-- the names that a netlist has are those of its needed part, as far as that has the nets
pub are_names : (p : tree.Pipe) (n q : Netlist) (k : Choice) (all names : List NamedNet) → IsWell (circuit_of n)
    → AreAllNames p n all → KeepsNeeded (circuit_of n) k → q ≡ pruned k n → names ≡ names_kept k all → AreNames p q names
are_names p n q k all names well are_all needed part is = record {
  each =
      subst (λ (y : Netlist). Each (IsName p y) names) (sym part)
      (subst (λ (xs : List NamedNet). Each (IsName p (pruned k n)) xs) (sym is)
      (all_kept k n (closed (circuit_of n) k needed) well p all are_all.each));
  whole = n;
  all = all;
  are_all = are_all;
  kept = k;
  needed = needed;
  part = part;
  found = is;
}

-- ---- one name after the other

-- a name whose net is kept comes to those that are found
pub kept_one : (k : Choice) (found : List NamedNet) (x : NamedNet) → is_kept k x.net ≡ true
    → found ++ record { net = moved_net k x.net; role = x.role } ∷ [] ≡ found ++ names_kept k (x ∷ [])
kept_one k found x e = ap (λ b. found ++ cond b (record { net = moved_net k x.net; role = x.role } ∷ []) []) (sym e)

-- another one doesn't
pub kept_none : (k : Choice) (found : List NamedNet) (x : NamedNet) → is_kept k x.net ≡ false → found ≡ found ++ names_kept k (x ∷ [])
kept_none k found x e =
    sym (append-nil found) ∙ ap (λ b. found ++ cond b (record { net = moved_net k x.net; role = x.role } ∷ []) []) (sym e)

names_first : (k : Choice) (x : NamedNet) (xs : List NamedNet) → names_kept k (x ∷ xs) ≡ names_kept k (x ∷ []) ++ names_kept k xs
names_first k x xs = at (is_kept k x.net)
  where
    at : (b : Bool) → cond b (record { net = moved_net k x.net; role = x.role } ∷ names_kept k xs) (names_kept k xs)
        ≡ cond b (record { net = moved_net k x.net; role = x.role } ∷ []) [] ++ names_kept k xs
    at true = refl
    at false = refl

-- after one more name of a list
pub names_step : (k : Choice) (all found whole : List NamedNet) (i : ℕ) (d : NamedNet) → i < length all
    → found ++ names_kept k (drop i all) ≡ whole → (found ++ names_kept k (get_or all i d ∷ [])) ++ names_kept k (drop (i + 1) all) ≡ whole
names_step k all found whole i d l h =
    append_assoc found (names_kept k (get_or all i d ∷ [])) (names_kept k (drop (i + 1) all))
    ∙ ap (λ (ys : List NamedNet). found ++ ys) (sym (names_first k (get_or all i d) (drop (i + 1) all)))
    ∙ ap (λ (ys : List NamedNet). found ++ names_kept k ys) (sym (drop_more all i d l)) ∙ h
