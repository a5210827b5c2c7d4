-- A netlist that is read has at least two outputs.
use Rattle.std.proofs.Common.{◌≡◌, ℕ, suc, ◌≤◌, Bool, true, false, cond, List, [], ◌∷◌, ◌++◌, length, map, filter_map, Option, Some, None, codes, refl, ap, ◌∙◌, arith}
use Rattle.std.specs.List.{cons_option, flat_map, range_with_len}
use Rattle.pdl_net.specs.declared.Dir.{Dir}
use Rattle.pdl_net.specs.declared.Dir.TheVariants.{In, Out}
use Rattle.pdl_net.specs.declared.Port.{Port}
use Rattle.pdl_net.specs.declared.Netlist.{Netlist}
use Rattle.pdl_net.specs.Circuit.{Output, output_with, port_output}
use Rattle.pdl_net.specs.Pipe.{Head, head_of, is_input, output, reply_ports, stage_ports, commit_ports, request_ports, pipe_ports, IsPipe}
use Rattle.pdl_law_parts.specs.Runs.{output_count}

head_output : Head → Option (List ℕ)
head_output h = cond h.input None (Some h.name)

abbrev heads_out : List Head → List (List ℕ)
heads_out hs = filter_map head_output hs

output_in : (d : Dir) (name : List ℕ) (xs : List Output) (ys : List (List ℕ))
    → length xs ≡ length ys
    → length (cons_option (output_with d name) xs) ≡ length (cons_option (cond (is_input d) None (Some name)) ys)
output_in In name xs ys e = e
output_in (Out x) name xs ys e = ap suc e

outputs_counted : (ps : List Port) → length (filter_map port_output ps) ≡ length (heads_out (map head_of ps))
unfolding head_output
outputs_counted [] = refl
outputs_counted (p ∷ ps) = output_in p.dir p.name (filter_map port_output ps) (heads_out (map head_of ps)) (outputs_counted ps)

more_heads : (xs ys : List Head) → 2 ≤ length (heads_out ys) → 2 ≤ length (heads_out (xs ++ ys))
unfolding head_output
more_heads [] ys h = h
more_heads (x ∷ xs) ys h = go x.input (more_heads xs ys h)
  where
    go : (b : Bool) → 2 ≤ length (heads_out (xs ++ ys)) → 2 ≤ length (cons_option (cond b None (Some x.name)) (heads_out (xs ++ ys)))
    go true r = r
    go false r = omega (arith, r)

last_two : 2 ≤ length (heads_out (output (codes "ended") 1 ∷ output (codes "squash") 1 ∷ []))
unfolding head_output
last_two = omega arith

-- a netlist with the ports of a pipe has at least two outputs
pub two_outputs : (n : Netlist) → IsPipe n → 2 ≤ output_count n
two_outputs n p =
    let counted = outputs_counted n.ports ∙ ap (λ hs. length (heads_out hs)) p.ports in
    let before : List Head =
    flat_map reply_ports p.delayed ++ flat_map stage_ports (range_with_len 0 p.stages)
    ++ flat_map commit_ports p.locked ++ flat_map request_ports p.delayed in
    let there : 2 ≤ length (heads_out (pipe_ports p.stages p.delayed p.locked)) =
    more_heads before (output (codes "ended") 1 ∷ output (codes "squash") 1 ∷ []) last_two in
    omega (arith, counted, there)
