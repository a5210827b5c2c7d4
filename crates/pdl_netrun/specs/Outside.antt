-- The delayed memories outside the netlist, as the simulator keeps them.
use Rattle.std.specs.Prelude.{◌≡◌, ℕ, ◌/◌, ◌<◌, ◌^◌, ◌==◌, Bool, List, [], ◌∷◌, ◌++◌, map, slice_index, Option, Some, None, codes, if◌then◌else◌, ⊤}
use Rattle.pdl_kit.specs.declared.mem_info.MemInfo.{MemInfo}
use Rattle.pdl_net.specs.Circuit.{Circuit, State, inputs_of}
use Rattle.pdl_net.specs.Cycle.{output_values}
use Rattle.pdl_net.specs.Well.{Suits}
use Rattle.pdl_net.specs.Run.{Store, reply, place_of, port_value, value_at, committed_words, outstanding}
use Rattle.pdl_netrun.specs.Places.{places_of}
use Rattle.pdl_netrun.specs.declared.places.CommitPlaces.{CommitPlaces}
use Rattle.pdl_netrun.specs.declared.places.RequestPlaces.{RequestPlaces}
use Rattle.pdl_netrun.specs.declared.outside.Outside.{Outside}

-- where a delayed memory's request ports stand among the outputs
abbrev pub requests_of : Circuit → List ℕ → RequestPlaces
requests_of c mem = record { request = place_of c (codes "q_" ++ mem); addr = place_of c (codes "qa_" ++ mem) }

-- a delayed memory of the simulator is one of the environment's
abbrev pub store_of : Outside → Store
store_of m = record { words = m.words.items; request = m.request }

-- the delayed memories of the simulator as those of the environment
abbrev pub stores_of : List Outside → List Store
stores_of ms = map store_of ms

-- what the ports at these places show: an address and a value, where the commit port is 1
abbrev pub commit_at : List ℕ → CommitPlaces → Option (ℕ × ℕ)
commit_at ports p = if value_at ports p.commit == 1 then Some (value_at ports p.addr, value_at ports p.value) else None

-- the address of the request that the ports at these places show, where the request port is 1
abbrev pub request_at : List ℕ → RequestPlaces → Option ℕ
request_at ports p = if value_at ports p.request == 1 then Some (value_at ports p.addr) else None

-- a delayed memory after a cycle that shows these ports, in which its request was answered or not
abbrev pub store_after : List ℕ → Bool → Outside → Store
store_after ports answered m = record {
  words = committed_words (committed_words m.words.items (commit_at ports m.commits.first)) (commit_at ports m.commits.second);
  request = outstanding m.request answered (request_at ports m.requests);
}

-- all delayed memories after a cycle that shows these ports, by the reply bits of the cycle
abbrev pub stores_after : List ℕ → List Outside → ℕ → List Store
stores_after ports [] bits = []
stores_after ports (m ∷ ms) bits = store_after ports (reply bits) m ∷ stores_after ports ms (bits / 2)

-- each memory has an input of one bit and one for its words, which fit it
abbrev pub WordsFit : List ℕ → List Store → Type 0
WordsFit [] [] = ⊤
WordsFit (r ∷ w ∷ more) (m ∷ ms) = (r ≡ 1) × ((a : ℕ) → slice_index m.words a < 2 ^ w) × WordsFit more ms
WordsFit _ _ = ⊥

-- an output of this name shows values of so many bits, in every state that suits
abbrev pub ShowsWords : Circuit → List ℕ → ℕ → Type 0
ShowsWords c name w = (s : State) → Suits c s → port_value c (output_values c s) name < 2 ^ w

-- what each memory commits fits its input for words, in every state that suits
abbrev pub CommitsFit : Circuit → List ℕ → List MemInfo → Type 0
CommitsFit c [] [] = ⊤
CommitsFit c (r ∷ w ∷ more) (i ∷ is) =
    ShowsWords c (codes "cd_" ++ i.name) w
    × ShowsWords c (codes "cd2_" ++ i.name) w
    × CommitsFit c more is
CommitsFit c _ _ = ⊥

-- what a memory of any name commits, first and second in a cycle, has an address of at most 16 bits, in every state that suits
abbrev pub AddressesFit : Circuit → Type 0
AddressesFit c = (mem : List ℕ) → ShowsWords c (codes "ca_" ++ mem) 16 × ShowsWords c (codes "ca2_" ++ mem) 16

-- and so it has where the ports show this
abbrev pub AddressesSeen : Circuit → List ℕ → Type 0
AddressesSeen c ports = (mem : List ℕ) → (port_value c ports (codes "ca_" ++ mem) < 2 ^ 16) × (port_value c ports (codes "ca2_" ++ mem) < 2 ^ 16)

-- these memories stand outside the circuit with ports by these names
pub record AreOutside (c : Circuit) (infos : List MemInfo) (ms : List Outside) : Type 0 where
  pub commits : map (λ m. m.commits) ms ≡ map (λ i. places_of c i.name) infos
  pub requests : map (λ m. m.requests) ms ≡ map (λ i. requests_of c i.name) infos
  pub fit : WordsFit (inputs_of c) (stores_of ms)
  pub wide : CommitsFit c (inputs_of c) infos

-- the delayed memories before the first cycle: each has its part of the image, and no request is outstanding
abbrev pub first_stores : List (List ℕ) → List Store
first_stores image = map (λ words. record { words = words; request = None }) image

-- a delayed memory before the first cycle, with these words, no outstanding request, and the ports of its name
pub record IsOutsideOf (c : Circuit) (name words : List ℕ) (m : Outside) : Type 0 where
  pub store : store_of m ≡ record { words = words; request = None }
  pub commits : m.commits ≡ places_of c name
  pub requests : m.requests ≡ requests_of c name
