-- The requests of memories, as acts change and show them.
use Rattle.std.specs.Prelude.{ℕ, suc, Bool, if◌then◌else◌, List, [], ◌∷◌, ◌++◌, Option}
use Rattle.pdl_semantics.specs.Flat.{Mem, Pipe, is_delayed}
use Rattle.pdl_semantics.specs.Machine.{Request, NoRequest, is_answered}
use Rattle.pdl_semantics.specs.Moves.{Act}
use Rattle.pdl_semantics.specs.Cycle.{asked_by, request_left, address_of, asked_in}
use Rattle.pdl_machine_facts.specs.Ports.{request_values}

-- the request of memory m after a cycle, in which it is answered or not
abbrev pub request_after : ℕ → List Act → Option ℕ → Bool → Request → Request
request_after m ms sq answered old = request_left sq (asked_by m ms (if answered then NoRequest else old))

-- the requests of memories after a cycle, of which the first is m
abbrev pub requests_after : Pipe → List Bool → List Act → Option ℕ → ℕ → List Request → List Request
requests_after p bits ms sq m [] = []
requests_after p bits ms sq m (r ∷ rs) = request_after m ms sq (is_answered p bits m) r ∷ requests_after p bits ms sq (suc m) rs

-- the address for which some of these acts ask memory m, else this
abbrev pub address_by : ℕ → List Act → Option ℕ → Option ℕ
address_by m [] rest = rest
address_by m (a ∷ ms) rest = address_of m a.does.asks (address_by m ms rest)

-- what the ports show of the requests of these memories, of which the first is m
abbrev pub requests_shown : ℕ → List Act → List Mem → List ℕ
requests_shown m ms [] = []
requests_shown m ms (x ∷ xs) = (if is_delayed x.kind then request_values (asked_in ms m) else []) ++ requests_shown (suc m) ms xs
