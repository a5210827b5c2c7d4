-- What a run begins with fits.
use Rattle.std.proofs.Common.{◌≡◌, sym, ◌∙◌, subst, ℕ, zero, suc, ◌^◌, ◌<◌, List, [], ◌∷◌, length, replicate, slice_index, arith}
use Rattle.std.proofs.lemmas.List.{length-replicate}
use Rattle.std.proofs.lemmas.List.Elements.{All-nil}
use Rattle.std.proofs.lemmas.Nat.{pow_pos}
use Rattle.pdl_semantics.specs.Flat.{arrays_of, word_at}
use Rattle.pdl_semantics.specs.Stages.{mem_at}
use Rattle.pdl_form.specs.Form.{Form}
use Rattle.pdl_form_types.specs.Stmts.{AreBelow, param_widths}
use Rattle.pdl_form_values.specs.Widths.{Fit}
use Rattle.pdl_seq.specs.declared.commit.Commit as r_commit
use Rattle.pdl_seq.specs.declared.turn.Turn as r_turn
use Rattle.pdl_seq.specs.Turns.{commits_view}
use Rattle.pdl_seq.specs.Fits.{IsImageFor, AreArgs, AreCommits, IsShaped, IsFit}
use Rattle.pdl_seq.specs.Runs.{IsRunnable}
use Rattle.pdl_seq.proofs.StatementWidths.{take_less}
use Rattle.pdl_word.proofs.Lists.{zeros_at}

below_at : (ws vs : List ℕ) → AreBelow ws vs → (x : ℕ) → slice_index vs x < 2 ^ slice_index ws x
below_at [] [] h x = omega arith
below_at [] (v ∷ vs) h x = absurd h
below_at (w ∷ ws) [] h x = absurd h
below_at (w ∷ ws) (v ∷ vs) h zero = h.0
below_at (w ∷ ws) (v ∷ vs) h (suc x) = below_at ws vs h.1 x

module _ (f : Form) (run : IsRunnable f) where
  start_args : AreArgs f f.pipe.start
  start_args =
      record {
        few = omega arith;
        below = λ x. take_less (length f.pipe.start) f.widths x _ (below_at (param_widths f) f.pipe.start run.typed.start x);
      }

  zeros_fit : Fit f.widths (replicate f.pipe.vars 0)
  zeros_fit =
      record {
        count = length-replicate f.pipe.vars 0 ∙ run.typed.vars;
        below = λ x. subst (λ v. v < 2 ^ slice_index f.widths x) (sym (zeros_at f.pipe.vars x)) (pow_pos (slice_index f.widths x));
      }

  -- a turn with the words of an image, zeros for values, the start arguments and no writes fits
  pub first_fits : (image : List (List ℕ)) → IsImageFor f.pipe image → (t : r_turn.Turn) → t.memories.items ≡ image
      → t.values.items ≡ replicate f.pipe.vars 0 → t.next.items ≡ f.pipe.start → t.commits.items ≡ [] → IsFit f t
  first_fits image is t mems values next none =
      record {
        shaped = subst (IsShaped f.pipe) (sym mems) (record { count = is.count; depth = is.depth });
        fitting = record {
          words = λ m a h. subst (λ (lists : List (List ℕ)). word_at (arrays_of lists) m a < 2 ^ (mem_at f.pipe m).width) (sym mems) (is.words m a h);
          values = subst (Fit f.widths) (sym values) zeros_fit;
          next_args = subst (AreArgs f) (sym next) start_args;
          commits = subst (λ (cs : List r_commit.Commit). AreCommits f.pipe (commits_view cs)) (sym none) (All-nil _);
        };
      }
