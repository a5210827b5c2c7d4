-- What is had of the files of a command, one after another.
use Rattle.std.proofs.Common.{◌≡◌, ℕ, ◌≤◌, List, [], ◌∷◌, ◌++◌, length, Option, inl, inr, refl, sym, ap, ◌∙◌, subst, append_assoc}
use Rattle.std.specs.Prelude.{Some, None, Ok, Err}
use Rattle.pdl_kit.specs.declared.rule.Rule.{Rule}
use Rattle.pdl_kit.specs.declared.mem_info.MemInfo.{MemInfo}
use Rattle.pdl_system.specs.Answers.{Answer, Since, gave}
use Rattle.pdl_image.specs.Images.{IsImage, image}
use Rattle.pdl_image.specs.Delays.{delays as delay_rows}
use Rattle.pdl_asm_table.specs.declared.table_error.TableError.TheVariants as table_error
use Rattle.pdl_asm_table.specs.Tables.{TableValue}
use Rattle.pdl_asm_table.specs.Documents as documents
use Rattle.pdl_asm.specs.Assembly as assembly
use Rattle.pdl_cli_args.specs.Line.{Command, asm}
use Rattle.pdl_cli_failure.specs.declared.failure.Position.{Position}
use Rattle.pdl_cli_failure.specs.declared.failure.Position.TheVariants.{Line, Insn}
use Rattle.pdl_cli_failure.specs.declared.failure.Failure.{Failure}
use Rattle.pdl_cli_failure.specs.declared.failure.Failure.TheVariants.{Usage, Refused, ReadFault, WriteFault, NoMemory}
use Rattle.pdl_cli_commands.specs.Commands.{IsWrongFor, Writes}
use Rattle.pdl_cli_commands.specs.Reading.{files}
use Rattle.pdl_cli_commands.specs.Begun.{FileFails, IsRefusedTable, IsRefusedProgram, IsRefusedImage, AreRefusedDelays, HasReplies, DelaysFail, IsBegun, StartFails}
use Rattle.pdl_cli_commands.specs.Outcomes.{IsMade, Fails}
use Rattle.pdl_cli_commands.proofs.Readings.{MayRead, reads_next, may_first, may_second, none_wrong_yet, first_read, file_fails}
use Rattle.pdl_cli_commands.proofs.Explanations.{rose_before, fails_before, read_before, since_as}

-- ---- one file after another

-- what isn't there since a later moment isn't since an earlier one
pub file_fails_before : (refused : List ℕ → Rule → Position → Type 0) (old new : List Answer) (before mid now : ℕ) (name : List ℕ) (f : Failure)
    → before ≤ mid → FileFails refused old new mid now name f → FileFails refused old new before now name f
file_fails_before refused old new before mid now name Usage h w = w
file_fails_before refused old new before mid now name (Refused rule position) h w = w
file_fails_before refused old new before mid now name ReadFault h w = (w.0, rose_before before mid now h w.1)
file_fails_before refused old new before mid now name WriteFault h w = w
file_fails_before refused old new before mid now name NoMemory h w = w

-- an image that was read, and the replies that were read after it
pub is_begun : (old mid new : List Answer) (image' i : List ℕ) (delays : Option (List ℕ)) (mems : List MemInfo) (count : ℕ)
    (words : List (List ℕ)) (rows : List ℕ) → mid ≡ old ++ gave image' i ∷ [] → image mems i ≡ Ok words → IsImage mems words
    → HasReplies mid new delays count rows → IsBegun old new image' delays mems count words rows
is_begun old mid new image' i delays mems count words rows e taken fits replies = record {
  image_text = i;
  taken = taken;
  fits = fits;
  replies = subst (λ rs. HasReplies rs new delays count rows) e replies;
}

delays_fail_before : (delays : Option (List ℕ)) (count : ℕ) (old new : List Answer) (before mid now : ℕ) (f : Failure)
    → before ≤ mid → DelaysFail delays count old new mid now f → DelaysFail delays count old new before now f
delays_fail_before None count old new before mid now f h w = w
delays_fail_before (Some name) count old new before mid now f h w =
    file_fails_before (AreRefusedDelays count) old new before mid now name f h w

-- an image that was read, and replies that aren't there
pub replies_off : (old mid new : List Answer) (before later now : ℕ) (image' i : List ℕ) (delays : Option (List ℕ)) (mems : List MemInfo) (count : ℕ)
    (words : List (List ℕ)) (f : Failure) → mid ≡ old ++ gave image' i ∷ [] → before ≤ later → image mems i ≡ Ok words
    → DelaysFail delays count mid new later now f → StartFails old new before now image' delays mems count f
replies_off old mid new before later now image' i delays mems count words f e h taken w =
    inr (i, words, taken, subst (λ rs. DelaysFail delays count rs new before now f) e (delays_fail_before delays count mid new before later now f h w))

-- ---- the text of a source that is made whole

module _ (command : Command) (source : List ℕ) (named : files command ≡ source ∷ []) (old new : List Answer) where
  -- it is made of the source's text
  pub source_made : (b text : List ℕ) → new ≡ old ++ gave source b ∷ [] → Writes command (b ∷ []) text
      → Since old new (λ reads. IsMade command reads text)
  source_made b text e w = record {
    reads = gave source b ∷ [];
    since = e;
    so = record { order = first_read command source [] named (Some b); given = ap length (sym named); written = w };
  }

  -- it isn't, where the source isn't there
  pub source_off : (refused : List ℕ → Rule → Position → Type 0) (faults faults_now : ℕ) (f : Failure)
      → ((text : List ℕ) (rule : Rule) (position : Position) → refused text rule position → IsWrongFor command (text ∷ []) rule position)
      → FileFails refused old new faults faults_now source f → Since old new (λ reads. Fails command reads faults faults_now f)
  source_off refused faults faults_now f wrong w =
      file_fails command [] source (may_first command source [] named (none_wrong_yet command source [] named)) refused wrong old new faults faults_now f w

  -- nor where memory runs out once it is read
  pub source_out : (b : List ℕ) (faults faults_now : ℕ) → new ≡ old ++ gave source b ∷ []
      → Since old new (λ reads. Fails command reads faults faults_now NoMemory)
  source_out b faults faults_now e =
      record { reads = gave source b ∷ []; since = e; so = record { order = first_read command source [] named (Some b); cause = tt } }

-- ---- a table and a program

module _ (table program : List ℕ) where
  right : (b : List ℕ) (value : TableValue) → documents.table b ≡ Ok value → (rule : Rule) (position : Position)
      → IsWrongFor (asm table program) (b ∷ []) rule position → ⊥
  right b value e rule (Line n) w = w
  right b value e rule (Insn n) w = let k : documents.table b ≡ Err (table_error.Refused rule n) = w in absurd (cc (e, k))

  may_program : (b : List ℕ) (value : TableValue) → documents.table b ≡ Ok value → MayRead (asm table program) (gave table b ∷ []) program
  may_program b value e =
      may_second (asm table program) table b program [] refl (none_wrong_yet (asm table program) table (program ∷ []) refl) (right b value e)

  module _ (old mid new : List Answer) (b : List ℕ) (value : TableValue) (first : mid ≡ old ++ gave table b ∷ []) (taken : documents.table b ≡ Ok value) where
    -- the image is made of both texts
    pub assembled : (p text : List ℕ) → new ≡ mid ++ gave program p ∷ [] → assembly.image value p ≡ Ok text
        → Since old new (λ reads. IsMade (asm table program) reads text)
    assembled p text e made = record {
      reads = gave table b ∷ gave program p ∷ [];
      since = e ∙ ap (λ rs. rs ++ gave program p ∷ []) first ∙ append_assoc old (gave table b ∷ []) (gave program p ∷ []);
      so = record {
        order = reads_next (asm table program) (gave table b ∷ []) program (may_program b value taken) (Some p);
        given = refl;
        written = record { value = value; tabled = taken; made = made };
      };
    }

    wrong_program : (p : List ℕ) (rule : Rule) (position : Position) → IsRefusedProgram value p rule position
        → IsWrongFor (asm table program) (b ∷ p ∷ []) rule position
    wrong_program p rule (Line n) r = record { value = value; tabled = taken; refused = r }
    wrong_program p rule (Insn n) r = r

    -- it isn't, where the program isn't there
    pub program_off : (before later now : ℕ) (f : Failure) → before ≤ later → FileFails (IsRefusedProgram value) mid new later now program f
        → Since old new (λ reads. Fails (asm table program) reads before now f)
    program_off before later now f h w =
        read_before old mid new (gave table b) (λ reads. Fails (asm table program) reads before now f) first
        (file_fails (asm table program) (gave table b ∷ []) program (may_program b value taken) (IsRefusedProgram value) wrong_program mid new before now f
        (file_fails_before (IsRefusedProgram value) mid new before later now program f h w))

  -- nor where the table isn't there
  pub table_off : (old new : List Answer) (faults faults_now : ℕ) (f : Failure) → FileFails IsRefusedTable old new faults faults_now table f
      → Since old new (λ reads. Fails (asm table program) reads faults faults_now f)
  table_off old new faults faults_now f w =
      file_fails (asm table program) [] table
      (may_first (asm table program) table (program ∷ []) refl (none_wrong_yet (asm table program) table (program ∷ []) refl)) IsRefusedTable
      (λ text rule position r. r) old new faults faults_now f w
