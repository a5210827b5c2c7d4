-- Wave form: what a dump reads as is the run that it was made of.
use Rattle.std.proofs.Common.{◌≡◌, refl, sym, ◌∙◌, ap, subst, ℕ, ◌+◌, ◌-◌, ◌^◌, ◌<◌, true, List, [], ◌∷◌, ◌++◌, length, map, flat_map, Option, Some, arith}
use Rattle.std.specs.Prelude.{IsSomeAnd}
use Rattle.std.specs.List.{list_all}
use Rattle.std.specs.Option.{option_map}
use Rattle.std.proofs.lemmas.Bool.{and_from, cond-true, lt-ltb}
use Rattle.std.proofs.lemmas.List.{append_assoc, map-append}
use Rattle.pdl_word.specs.Each.{Each}
use Rattle.pdl_word.proofs.Each.{each_append, each_weaker}
use Rattle.pdl_wave.specs.declared.port.WavePort.{WavePort}
use Rattle.pdl_wave.specs.Moments.{run_moments}
use Rattle.pdl_wave.specs.Dump.{IsRun, IsPort, IsRow, header, declarations, upscope, enddefinitions, time_text, moment_lines, dump_lines, dump, is_word}
use Rattle.pdl_wave.specs.Wave.{DumpLine, Timescale, Scope, Upscope, EndDefinitions, Time, Nothing, of_line, lines_of, Declared, Header, header_of, is_form, begin, are_new, last_time, Wave, wave_with, wave_of, wave, Shows, IsWaveOf}
use Rattle.pdl_wave.proofs.LineBytes.{is_line}
use Rattle.pdl_wave.proofs.Read.{cut_lines, read_time, read_scope}
use Rattle.pdl_wave.proofs.DumpLines.{CanTell, read_ports, read_moment, ports_read, moments_read, header_lines, time_is_line, moments_lines, declared_back, told_moments}
use Rattle.pdl_wave.proofs.Form.{row_length, all_moments, begins, last_of, all_values, all_new, can_tell}

-- ---- the lines

-- what the lines after the header are read as
abbrev read_body : List WavePort → List (List ℕ) → List DumpLine
read_body ports rows = flat_map (read_moment ports) (run_moments rows) ++ Time (length rows + 1) ∷ Nothing ∷ []

regroup : (h f t e : List (List ℕ)) → h ++ f ++ t ++ e ≡ h ++ (f ++ (t ++ e))
regroup h f t e = simp append_assoc

lines_cut : (name : List ℕ) (ports : List WavePort) (rows : List (List ℕ)) → IsRun name ports rows
    → Each (λ line. is_line line ≡ true) (dump_lines name ports rows)
lines_cut name ports rows h =
    each_append _ (header name ports ++ flat_map (moment_lines ports) (run_moments rows)) (time_text (length rows + 1) ∷ [])
    (each_append _ (header name ports) (flat_map (moment_lines ports) (run_moments rows))
    (header_lines name ports h.named h.declared) (moments_lines ports (run_moments rows) (can_tell ports rows h.fits h.counted)))
    (time_is_line (length rows + 1) h.counted, tt)

header_read : (name : List ℕ) (ports : List WavePort)
    → is_word name ≡ true → Each IsPort ports
    → map of_line (header name ports) ≡ Timescale ∷ Scope name ∷ (read_ports 0 ports ++ Upscope ∷ EndDefinitions ∷ [])
header_read name ports named each =
    ap (λ line. Timescale ∷ line ∷ map of_line (declarations 0 ports ++ upscope ∷ enddefinitions ∷ [])) (read_scope name named)
    ∙ ap (λ more. Timescale ∷ Scope name ∷ more)
    (map-append of_line (declarations 0 ports) (upscope ∷ enddefinitions ∷ [])
    ∙ ap (λ more. more ++ Upscope ∷ EndDefinitions ∷ []) (ports_read 0 ports each))

body_read : (ports : List WavePort) (rows : List (List ℕ)) → Each (CanTell ports) (run_moments rows) → length rows + 1 < 2 ^ 64 →
    map of_line (flat_map (moment_lines ports) (run_moments rows) ++ (time_text (length rows + 1) ∷ [] ++ [] ∷ [])) ≡ read_body ports rows
body_read ports rows each l =
    map-append of_line (flat_map (moment_lines ports) (run_moments rows)) (time_text (length rows + 1) ∷ [] ∷ [])
    ∙ ap (λ more. more ++ of_line (time_text (length rows + 1)) ∷ Nothing ∷ []) (moments_read ports (run_moments rows) each)
    ∙ ap (λ line. flat_map (read_moment ports) (run_moments rows) ++ line ∷ Nothing ∷ []) (read_time (length rows + 1) l)

lines_read : (name : List ℕ) (ports : List WavePort) (rows : List (List ℕ)) → IsRun name ports rows →
    lines_of (dump name ports rows) ≡ Timescale ∷ Scope name ∷ (read_ports 0 ports ++ Upscope ∷ EndDefinitions ∷ read_body ports rows)
unfolding dump
lines_read name ports rows h =
    let moments = flat_map (moment_lines ports) (run_moments rows) in
    let end = time_text (length rows + 1) ∷ [] in
    ap (map of_line) (cut_lines (dump_lines name ports rows) (lines_cut name ports rows h) ∙ regroup (header name ports) moments end ([] ∷ []))
    ∙ map-append of_line (header name ports) (moments ++ (end ++ [] ∷ []))
    ∙ ap (λ more. more ++ map of_line (moments ++ (end ++ [] ∷ []))) (header_read name ports h.named h.declared)
    ∙ ap (λ more. Timescale ∷ Scope name ∷ (read_ports 0 ports ++ Upscope ∷ EndDefinitions ∷ [] ++ more))
    (body_read ports rows (can_tell ports rows h.fits h.counted) h.counted)
    ∙ ap (λ more. Timescale ∷ Scope name ∷ more) (append_assoc (read_ports 0 ports) (Upscope ∷ EndDefinitions ∷ []) (read_body ports rows))

-- ---- what they say

-- the wave of a run
abbrev the_wave : List ℕ → List WavePort → List (List ℕ) → Wave
the_wave name ports rows = record { name = name; ports = ports; cycles = last_time 0 (all_moments rows) - 1; moments = all_moments rows }

in_form : (name : List ℕ) (ports : List WavePort) (rows : List (List ℕ)) → IsRun name ports rows → Each (λ row. length row ≡ length ports) rows →
    is_form (length ports) (record { changes = []; moments = all_moments rows }) ≡ true
in_form name ports rows h lengths =
    and_from _ _ (lt-ltb (length ports) 8930 h.few)
    (and_from (begin (length ports) (all_moments rows)) (list_all (are_new (all_moments rows)) (all_moments rows))
    (begins rows (length ports) lengths) (all_new rows (length ports) lengths))

row_lengths : (ports : List WavePort) (rows : List (List ℕ)) → Each (IsRow ports) rows → Each (λ row. length row ≡ length ports) rows
row_lengths ports rows h = each_weaker (IsRow ports) (λ row. length row ≡ length ports) (row_length ports) rows h

wave_is : (name : List ℕ) (ports : List WavePort) (rows : List (List ℕ)) → IsRun name ports rows
    → wave (dump name ports rows) ≡ Some (the_wave name ports rows)
unfolding wave
wave_is name ports rows h =
    let head : Header = record { name = name; ports = ports; rest = read_body ports rows } in
    ap (λ lines. wave_of (header_of lines)) (lines_read name ports rows h)
    ∙ ap (λ d. wave_of (option_map (λ (d : Declared). record { name = name; ports = d.ports; rest = d.rest }) d))
    (declared_back 0 ports (read_body ports rows) h.declared)
    ∙ ap (wave_with head) (told_moments ports (run_moments rows) (length rows + 1) (can_tell ports rows h.fits h.counted))
    ∙ cond-true _ _ _ (in_form name ports rows h (row_lengths ports rows h.fits))

-- the wave of a dump has the name, the ports, the count of cycles and in each of them the values that it was made of
pub wave_form : (name : List ℕ) (ports : List WavePort) (rows : List (List ℕ)) → IsRun name ports rows
    → IsWaveOf (dump name ports rows) name ports rows
wave_form name ports rows h =
    let lengths = row_lengths ports rows h.fits in
    let last = last_of (run_moments rows) 0 (length rows + 1) in
    let shows : Shows (the_wave name ports rows) name ports rows = record {
      named = refl;
      declared = refl;
      counted = omega (arith, last);
      values = λ c i l m. all_values rows (length ports) c i lengths l m;
    } in
    let P : Option Wave → Type 0 = λ o. IsSomeAnd o (λ w. Shows w name ports rows) in
    subst P (sym (wave_is name ports rows h)) shows
