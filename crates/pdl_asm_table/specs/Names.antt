-- Names as tables and texts write them.
use Rattle.std.specs.Prelude.{ℕ, Bool, not, ◌&&◌, List, [], ◌∷◌, bytes_eq, codes}
use Rattle.std.specs.List.{list_any}
use Rattle.pdl_image.specs.Images.{is_name}

-- the keywords of the pipeline language that have a name's form
abbrev pub keywords : List (List ℕ)
keywords =
    codes "acquire" ∷ codes "advisory" ∷ codes "block" ∷ codes "bypass" ∷ codes "call" ∷ codes "cat" ∷ codes "comb" ∷ codes "delayed" ∷ codes "else" ∷ codes "if"
    ∷ codes "lock" ∷ codes "lts" ∷ codes "pipe" ∷ codes "queue" ∷ codes "release" ∷ codes "rename" ∷ codes "reserve" ∷ codes "sext"
    ∷ codes "spec_barrier" ∷ codes "spec_call" ∷ codes "spec_check" ∷ codes "start" ∷ codes "uint" ∷ codes "update" ∷ codes "verify" ∷ codes "zext" ∷ []

-- a name is one of these keywords
abbrev pub is_keyword : List ℕ → Bool
is_keyword name = list_any (λ k. bytes_eq name k) keywords

-- a name of the pipeline language: no keyword
abbrev pub is_pipe_name : List ℕ → Bool
is_pipe_name name = is_name name && not (is_keyword name)
