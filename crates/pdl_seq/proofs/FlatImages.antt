-- An image for the memories of a tree is one for its flat form.
use Rattle.std.proofs.Common.{◌≡◌, refl, sym, ◌∙◌, subst, ℕ, zero, suc, ◌^◌, ◌<◌, false, List, [], ◌∷◌, length, slice_index, slice_index_or, arith}
use Rattle.pdl_kit.specs.declared.mem_info.MemInfo.{MemInfo}
use Rattle.pdl_semantics.specs.Tree.{Mem, Pipe}
use Rattle.pdl_semantics.specs.Flatten.{mems_of, flat}
use Rattle.pdl_semantics.specs.Stages.{plain_mem}
use Rattle.pdl_image.specs.Images.{IsImage}
use Rattle.pdl_seq.specs.Turns.{list_at}
use Rattle.pdl_seq.specs.Fits.{IsImageFor}
use Rattle.pdl_rules.specs.Memories.{infos_of}
use Rattle.pdl_rules.proofs.ToldMemories.{infos_count}

-- what an index past the end would give
no_info : MemInfo
no_info = record { name = []; width = 0; depth = 0; delayed = false }

info_depth : (ms : List Mem) (m : ℕ)
    → m < length (mems_of ms)
    → (slice_index_or (infos_of ms) m no_info).depth ≡ (slice_index_or (mems_of ms) m plain_mem).depth
info_depth [] m h = absurd (omega arith)
info_depth (x ∷ ms) zero h = refl
info_depth (x ∷ ms) (suc m) h = info_depth ms m (omega arith)

info_width : (ms : List Mem) (m : ℕ)
    → m < length (mems_of ms)
    → (slice_index_or (infos_of ms) m no_info).width ≡ (slice_index_or (mems_of ms) m plain_mem).width
info_width [] m h = absurd (omega arith)
info_width (x ∷ ms) zero h = refl
info_width (x ∷ ms) (suc m) h = info_width ms m (omega arith)

-- an image for the memories that are told of a tree is one for the memories of its flat form
pub images : (p : Pipe) (image : List (List ℕ)) → IsImage (infos_of p.mems) image → IsImageFor (flat p) image
images p image is =
    let count = infos_count p.mems in
    record {
      count = is.count ∙ count;
      depth = λ m h. is.depth m no_info (subst (λ n. m < n) (sym count) h) ∙ info_depth p.mems m h;
      words = λ m a h.
          subst (λ w. slice_index (list_at image m) a < 2 ^ w) (info_width p.mems m h) (is.width m no_info (subst (λ n. m < n) (sym count) h) a);
    }
