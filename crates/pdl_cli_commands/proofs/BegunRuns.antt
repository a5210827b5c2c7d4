-- A command that runs once its image and its delay file are there.
use Rattle.std.proofs.Common.{◌≡◌, ℕ, List, ◌∷◌, Option, sym, subst}
use Rattle.std.specs.Prelude.{Some, Result}
use Rattle.pdl_kit.specs.declared.mem_info.MemInfo.{MemInfo}
use Rattle.pdl_system.specs.Answers.{Answer, Since, gave}
use Rattle.pdl_cli_args.specs.Line.{Command}
use Rattle.pdl_cli_failure.specs.declared.failure.Failure.{Failure}
use Rattle.pdl_cli_commands.specs.Commands.{Writes}
use Rattle.pdl_cli_commands.specs.Reading.{texts, IsReading, AreAllGiven}
use Rattle.pdl_cli_commands.specs.Begun.{IsBegun}
use Rattle.pdl_cli_commands.specs.Outcomes.{seen_of, Explains, Streamed}
use Rattle.pdl_cli_commands.proofs.Readings.{ReadsImage, begun}
use Rattle.pdl_cli_commands.proofs.Explanations.{since_as, streamed_explains}

-- where image and delay file are there, and what is streamed is what the command writes of all its texts, that explains its outcome
pub begun_explains : {T : Type 0} (command : Command) (first text image' : List ℕ) (delays : Option (List ℕ)) (mems : List MemInfo) (count : ℕ)
    → ReadsImage command first text image' delays mems count → (old new : List Answer) (words : List (List ℕ)) (rows : List ℕ)
    (b : IsBegun old new image' delays mems count words rows) (faults faults_now : ℕ) (written written_now : Option (List ℕ)) (writes writes_now : ℕ)
    (r : Result T Failure) (IsText : List ℕ → Type 0)
    → ((t : List ℕ) → IsText t → Writes command (text ∷ b.image_text ∷ b.replies.texts) t)
    → Streamed IsText written written_now writes writes_now r
    → Since old new (λ reads. Explains (Some command) (seen_of (gave first text ∷ reads) faults faults_now written written_now writes writes_now) r)
begun_explains command first text image' delays mems count judged old new words rows b faults faults_now written written_now writes writes_now r IsText is w =
    since_as old new
    (λ rs. IsReading command (gave first text ∷ rs) × AreAllGiven command (gave first text ∷ rs)
    × (texts (gave first text ∷ rs) ≡ text ∷ b.image_text ∷ b.replies.texts))
    (λ reads. Explains (Some command) (seen_of (gave first text ∷ reads) faults faults_now written written_now writes writes_now) r)
    (λ reads all. streamed_explains command (seen_of (gave first text ∷ reads) faults faults_now written written_now writes writes_now) r IsText
    all.0 all.1 (λ t h. subst (λ ts. Writes command ts t) (sym all.2) (is t h)) w)
    (begun command first text image' delays mems count judged old new words rows b)
