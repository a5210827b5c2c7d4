-- The environment of a netlist, which keeps the delayed memories, stands for the machine's arrays and requests.
use Rattle.std.specs.Prelude.{◌≡◌, ℕ, suc, ◌^◌, ◌<◌, Bool, true, false, List, [], ◌∷◌, Option, Some, None, length, slice_index, ⊤}
use Rattle.pdl_semantics.specs.Flat.{Mem, is_delayed}
use Rattle.pdl_semantics.specs.Machine.{Request, NoRequest, Owned, Orphan, State, request_of}
use Rattle.pdl_net.specs.Run.{Store}

-- the address for which a request is outstanding
abbrev pub address_asked : Request → Option ℕ
address_asked NoRequest = None
address_asked (Owned n a) = Some a
address_asked (Orphan a) = Some a

-- the words of memory m and its outstanding request; words and addresses fit
pub record IsStore (st : State) (m : ℕ) (x : Mem) (y : Store) : Type 0 where
  pub long : length y.words ≡ x.depth
  pub bounded : (a : ℕ) → slice_index y.words a < 2 ^ x.width
  pub same : (a : ℕ) → a < x.depth → slice_index y.words a ≡ st.arrays m a
  pub request : y.request ≡ address_asked (request_of st m)
  pub reach : (a : ℕ) → y.request ≡ Some a → a < x.depth

-- the first of these is the memory's, where it is delayed
abbrev pub StoreThen : (List Store → Type 0) → Bool → State → ℕ → Mem → List Store → Type 0
StoreThen rest false st m x ys = rest ys
StoreThen rest true st m x [] = ⊥
StoreThen rest true st m x (y ∷ ys) = IsStore st m x y × rest ys

-- the stores are those of the delayed memories among these, of which the first has the number m
abbrev pub AreStores : State → ℕ → List Mem → List Store → Type 0
AreStores st m [] [] = ⊤
AreStores st m [] (y ∷ ys) = ⊥
AreStores st m (x ∷ xs) ys = StoreThen (AreStores st (suc m) xs) (is_delayed x.kind) st m x ys
