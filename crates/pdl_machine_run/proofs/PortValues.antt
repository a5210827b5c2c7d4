-- What the ports show, one memory after the other.
use Rattle.std.proofs.Common.{◌≡◌, sym, ap, ap₂, ◌∙◌, ℕ, suc, ◌+◌, ◌<◌, List, [], ◌++◌, drop, length, Option, None, if◌then◌else◌, get_or, arith, append_assoc}
use Rattle.pdl_semantics.specs.Flat.{is_delayed}
use Rattle.pdl_semantics.specs.Moves.{Act}
use Rattle.pdl_form.specs.declared.form.FlatMem as r_mem
use Rattle.pdl_form.specs.View.{mem_view, mems_view}
use Rattle.pdl_word.proofs.Lists.{drop_next}
use Rattle.pdl_machine_facts.specs.Ports.{request_values}
use Rattle.pdl_machine_run.specs.Requests.{address_by, requests_shown}
use Rattle.pdl_machine_run.proofs.ActLists.{address_is}

-- the values that are shown for requests, with those of one memory more
pub requests_more : (mems : List r_mem.FlatMem) (m : ℕ) (x : r_mem.FlatMem) (ms : List Act) (now was all : List ℕ)
    → m < length mems → x ≡ get_or mems m x
    → now ≡ was ++ (if is_delayed (mem_view x).kind then request_values (address_by m ms None) else [])
    → was ++ requests_shown m ms (mems_view (drop m mems)) ≡ all
    → now ++ requests_shown (m + 1) ms (mems_view (drop (m + 1) mems)) ≡ all
requests_more mems m x ms now was all less is e h =
    let up : m + 1 ≡ suc m = omega arith in
    let rest : List ℕ = requests_shown (suc m) ms (mems_view (drop (m + 1) mems)) in
    ap₂ (λ (a : List ℕ) k. a ++ requests_shown k ms (mems_view (drop (m + 1) mems))) e up
    ∙ append_assoc was (if is_delayed (mem_view x).kind then request_values (address_by m ms None) else []) rest
    ∙ ap (λ (o : Option ℕ). was ++ ((if is_delayed (mem_view x).kind then request_values o else []) ++ rest)) (address_is m ms)
    ∙ ap (λ (ys : List r_mem.FlatMem). was ++ requests_shown m ms (mems_view ys)) (sym (drop_next mems m x less is))
    ∙ h
