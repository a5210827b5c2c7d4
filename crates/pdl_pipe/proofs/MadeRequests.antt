-- What an emitted netlist asks of the delayed memories, as the law of a netlist asks for it.
use Rattle.std.proofs.Common.{◌≡◌, refl, sym, ap, ◌∙◌, subst, ℕ, ◌^◌, ◌<◌, true, List, length, arith}
use Rattle.std.specs.Prelude.{Option, Some, None, is_some}
use Rattle.std.proofs.lemmas.Bool.{false≢true}
use Rattle.pdl_semantics.specs.Flat.{Pipe, is_delayed}
use Rattle.pdl_semantics.specs.Stages.{mem_at}
use Rattle.pdl_net.specs.declared.Net.{Net}
use Rattle.pdl_net.specs.Circuit.{Circuit}
use Rattle.pdl_net.specs.Signal.{Signal}
use Rattle.pdl_net.specs.Meaning.{signal}
use Rattle.pdl_net.specs.Growth.{Keeps}
use Rattle.pdl_net.proofs.KeptWidths.{width_keeps}
use Rattle.pdl_pipe_exprs.specs.Nets.{signals_in, signal_at}
use Rattle.pdl_law_sides.specs.Readings.{reading}
use Rattle.pdl_law_parts.specs.Walk.{zero_bit}
use Rattle.pdl_law_parts.specs.Views.{View, Gates}
use Rattle.pdl_law_sides.specs.Sides.{Sides}
use Rattle.pdl_law_sides.specs.WholeNetlist.{IsOutside, FitsOutside}
use Rattle.pdl_pipe_walk.specs.Parts.{walk_in}
use Rattle.pdl_pipe_walk.specs.Locked.{Members, some_at}
use Rattle.pdl_pipe_beside.specs.declared.ends.StageEnd.{StageEnd}
use Rattle.pdl_pipe_beside.specs.declared.outside.RequestNets.{RequestNets}
use Rattle.pdl_pipe_beside.specs.Ends.{ends_in, moves_in, kills_in}
use Rattle.pdl_pipe_beside.specs.Requests.{IsRequest}
use Rattle.pdl_pipe_beside.specs.Beside.{AreStagesOf}
use Rattle.pdl_pipe_beside.proofs.EndGrowth as ends_kept
use Rattle.pdl_pipe_beside.proofs.Beside.{is_outside}
use Rattle.pdl_pipe_registers.proofs.Lists.{view_at}
use Rattle.pdl_pipe_nexts.specs.Lines.{line_pipe}
use Rattle.pdl_pipe_locks.specs.Stepped.{commits_in}
use Rattle.pdl_pipe_locks.proofs.LockGrowth.{Stays}
use Rattle.pdl_pipe_ports.specs.ToldOutputs.{ask_of, asks_in}
use Rattle.pdl_pipe_emitted.specs.Emitted.{Nets, Emission, views_of, moves_of, sides_of, inputs_of, free_of, squashes_of}
use Rattle.pdl_pipe_emitted.proofs.LaidGrowth.{keeps_bd, keeps_cd}
use Rattle.pdl_pipe_emitted.proofs.LaidLocks.{fits_at, words_at}
use Rattle.pdl_pipe_emitted.proofs.SidesStages.{some_of, at_signal}
use Rattle.pdl_pipe_emitted.proofs.SidesPorts.{moves_first}
use Rattle.pdl_pipe_emitted.proofs.SidesRemoved.{views_first}

-- nets that have the values of a request have them in all later circuits
request_kept : (a b c : Circuit) (p : Pipe) (es : List StageEnd) (m : ℕ) (x : RequestNets) → Keeps b c
    → IsRequest a b p es m x → IsRequest a c p es m x
request_kept a b c p es m x k h =
    let e = k.kept x.enable h.enable_bit.there in
    let g = k.kept x.addr h.addr_there in
    record {
      enable_bit = width_keeps b c x.enable 1 k h.enable_bit;
      enable = e ∙ h.enable;
      addr_there = k.there x.addr h.addr_there;
      addr = λ s. ap (λ (z : Signal). z.value s) g ∙ h.addr s;
      reach = ap (λ (z : Signal). 2 ^ z.width) g ∙ h.reach;
    }

module _ {T : Type 0} (l : Members T) (n : Nets T) (em : Emission l n) where
  abbrev p : Pipe
  p = line_pipe n.line

  abbrev vs : ℕ → View
  vs = views_of l n em

  abbrev moves : ℕ → Signal
  moves = moves_of l n em

  abbrev sides : Sides
  sides = sides_of l n em

  -- ---- the stages as they were asked

  module _ (k : ℕ) (low : k < length p.stages) where
    in_stages : k < length n.line.stages.now
    in_stages = let count = em.line.count in omega (arith, low, count)

    in_ends : k < length n.ends
    in_ends = let count = em.ends.count in let here = in_stages in omega (arith, here, count)

    ended_first : (vs k).ended ≡ (ends_in em.b n.ends k).ended
    ended_first =
        let (s, is) = some_of n.line.stages.now k in_stages in
        let (e, at) = some_of n.ends k in_ends in
        sym (ap (λ (us : ℕ → View). (us k).ended) (views_first l n em))
        ∙ ap (λ (v : View). v.ended) (view_at em.b n.line.stages.now k s in_stages is)
        ∙ ap (walk_in em.b) (sym (em.ends.ended k s e in_ends is at))
        ∙ sym (ap (λ (v : View). v.ended) (ends_kept.view_at em.b n.ends k e in_ends (sym at)))

    move_first : moves k ≡ moves_in em.b n.ends k
    move_first =
        let count = em.line.moves_count in
        let here = in_stages in
        let inside : k < length n.line.moves.now = omega (arith, here, count) in
        let (z, is) = some_of n.line.moves.now k inside in
        let (e, at) = some_of n.ends k in_ends in
        sym (moves_first l n em k)
        ∙ ap (λ (xs : List Net). signal_at (signals_in em.b xs) k) (sym em.line_moves_are)
        ∙ sym (at_signal em.b n.line.moves.now k z inside is)
        ∙ ap (signal em.b) (sym (em.ends.moves k z e in_ends is at))
        ∙ ends_kept.move_at em.b n.ends k e in_ends (sym at)

  -- with whatever removals and squash they had
  abbrev first_gates : Gates
  first_gates = record { gate = λ k. zero_bit; kill = kills_in em.b n.ends; squash = signal em.b n.moves.squash; tail = λ m. zero_bit }

  stages_first : AreStagesOf em.b p n.ends n.moves.squashes vs first_gates moves sides.squash
  stages_first = record { ends = ended_first; move = move_first; kills = λ k low. refl; squashes = refl }

  -- ---- each delayed memory

  module _ (m : ℕ) (low : m < length p.mems) (delayed : is_delayed (mem_at p m).kind ≡ true) where
    some_request : (o : Option RequestNets) → is_some o ≡ true → (x : RequestNets) × (o ≡ Some x)
    some_request None e = absurd (false≢true e)
    some_request (Some x) e = (x, refl)

    here : (x : RequestNets) × (some_at n.requests m ≡ Some x)
    here = some_request (some_at n.requests m) ((em.asked.each m low).some ∙ delayed)

    now : IsRequest em.b em.d p n.ends m here.0
    now = request_kept em.b em.c em.d p n.ends m here.0 (keeps_cd l n em) ((em.asked.each m low).asks here.0 here.1)

    -- a delayed memory is asked as the law says
    pub outside : IsOutside p em.d vs moves sides (asks_in em.d n.requests m) m
    outside =
        subst (λ (o : Option RequestNets). IsOutside p em.d vs moves sides (ask_of em.d o) m) (sym here.1)
        (is_outside em.b em.d p n.ends n.moves.squashes vs first_gates moves
        n.line.shared.now.ports.now (inputs_of p) (λ j. free_of l n em (reading p j) j) n.orders (squashes_of l n em)
        (keeps_bd l n em) stages_first em.can.onward m here.0 now refl refl)

    -- whether a delayed memory is asked is told by 1 bit
    pub request_one : (asks_in em.d n.requests m).enable.width ≡ 1
    request_one = subst (λ (o : Option RequestNets). (ask_of em.d o).enable.width ≡ 1) (sym here.1) now.enable_bit.width

    -- a delayed memory is asked with a net for the address, and commits nets of its width
    pub fits_outside : Stays l → FitsOutside p em.d (asks_in em.d n.requests m) (commits_in em.d n.commits m) m
    fits_outside stays =
        subst (λ (o : Option RequestNets). FitsOutside p em.d (ask_of em.d o) (commits_in em.d n.commits m) m) (sym here.1)
        (record {
          addr = (here.0.addr, now.addr_there, refl);
          reach = now.reach;
          word = λ h. words_at l stays n em m h;
          wide = λ h. (let fit = fits_at l stays n em m h in (fit.0.2, fit.1.2));
        })
