-- Members and items, one after another.
use Rattle.std.proofs.Common.{◌≡◌, ◌==◌, if◌then◌else◌, Some, None, false, length, ℕ, Bool, true, List, [], ◌∷◌, String, Global, string_bytes, refl, ap, map, bytes_eq}
use Rattle.std.specs.Prelude.{◌&&◌}
use Rattle.std.specs.List.{list_any}
use Rattle.toml.specs.View.{members_view, items_view}
use Rattle.toml.specs.declared.value.Value.{Value}
use Rattle.toml.specs.Data.{Members, no_members, member}
use Rattle.pdl_asm_table.specs.Documents.{has_only, regs_from, are_tables, some_tables}

-- each key is one of these
abbrev pub all_known : List (List ℕ) → List (String Global) → Bool
all_known keys [] = true
all_known keys (k ∷ ks) = list_any (λ key. bytes_eq (string_bytes k) key) keys && all_known keys ks

-- members have no other key than some where each of their keys is one of these
pub has_only_keys : (keys : List (List ℕ)) (es : List (String Global × Value))
    → has_only keys (members_view es) ≡ all_known keys (map (λ e. e.0) es)
has_only_keys keys [] = refl
has_only_keys keys (e ∷ es) = ap (λ b. list_any (λ key. bytes_eq (string_bytes e.0) key) keys && b) (has_only_keys keys es)

-- once a register lacks its form, there are none
pub regs_none : (ms : Members) → regs_from None ms ≡ None
regs_none no_members = refl
regs_none (member name d ms) = regs_none ms

-- an array that is not empty and has tables alone is an array of at least one table
pub some_tables_are : (vs : List Value)
    → (length vs == 0) ≡ false → are_tables (items_view vs) ≡ true → some_tables (items_view vs) ≡ Some (items_view vs)
some_tables_are [] h t = cc
some_tables_are (v ∷ vs) h t = ap (λ b. if b then Some (items_view (v ∷ vs)) else None) t
