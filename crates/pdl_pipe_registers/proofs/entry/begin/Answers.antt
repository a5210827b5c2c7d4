use Rattle.std.proofs.Common.{ℕ, length, sym, ap, ◌∙◌, subst}
use Rattle.pdl_form.specs.FormView.{form}
use Rattle.pdl_net.proofs.Keeps.{extends_keeps, keeps_trans}
use Rattle.pdl_net.specs.Signal.{Signal}
use Rattle.pdl_pipe_exprs.specs.Nets.{NetsThere, signals_in, signal_at, widths_of}
use Rattle.pdl_pipe_exprs.proofs.NetLists.{there_keeps, signals_keep}
use Rattle.pdl_form_types.specs.Stmts.{param_widths}
use Rattle.pdl_pipe_lives.specs.Needs.{goes_with}
use Rattle.pdl_law_parts.specs.Lives.{lives_from, verifies_from}
use Rattle.pdl_pipe_answers.specs.Ports.{answers_in}
use Rattle.pdl_pipe_answers.proofs.PortAnswers.{answer_same}
use Rattle.pdl_pipe_walk.proofs.NetGrowth.{bits_keep}
use Rattle.pdl_pipe_registers.specs.declared.nets.Item.TheVariants.{Var, Ticket, Guess}
use Rattle.pdl_pipe_registers.specs.declared.nets.StageNets.{StageNets}
use Rattle.pdl_pipe_registers.specs.Stages.{IsSettled, IsSpared}
use Rattle.pdl_pipe_registers.specs.Begun.{earlier_views, earlier_count, IsSparedAfter, AreBegun, AreAnswered, AreNextTickets, IsFresh}
use Rattle.pdl_pipe_registers.proofs.RegisterGrowth.{registers_keep, longer_none, longer_trans}
use Rattle.pdl_pipe_registers.proofs.Begins.{shared_keep, next_keep, earlier_now, begun_keep}
use Rattle.pdl_pipe_registers.proofs.MarksBegun.{marks_keep}
use Rattle.pdl_pipe_registers.proofs.BeginMade.{frame_from, frame_to, vars_from, guess_from, marks_from, all_marks_from, past_ended, HasParts, begun_is}
use Rattle.pdl_pipe_registers.proofs.entry.begin.Goals as goal

pub begin_vars-requires-clause-shared : goal.begin_vars-requires-clause-shared
begin_vars-requires-clause-shared c =
    shared_keep c.args.b.now c.new.new.b (form c.args.pipe.now) c.args.shared.now
    (extends_keeps c.args.b.now c.new.new.b c.new.ensures.extends) c.requires.shared

pub begin_vars-requires-clause-earlier : goal.begin_vars-requires-clause-earlier
begin_vars-requires-clause-earlier c =
    earlier_now c.args.b.now c.new.new.b (form c.args.pipe.now) c.args.shared.now c.args.earlier.now
    (extends_keeps c.args.b.now c.new.new.b c.new.ensures.extends) c.requires.shared c.requires.earlier

pub begin_marks-requires-clause-shared : goal.begin_marks-requires-clause-shared
begin_marks-requires-clause-shared c =
    let a = c.args.b.now in
    let e =
    keeps_trans a c.new.new.b c.begin_vars.new.b (extends_keeps a c.new.new.b c.new.ensures.extends)
    (extends_keeps c.new.new.b c.begin_vars.new.b c.begin_vars.ensures.extends) in
    shared_keep a c.begin_vars.new.b (form c.args.pipe.now) c.args.shared.now e c.requires.shared

pub begin_marks-requires-clause-earlier : goal.begin_marks-requires-clause-earlier
begin_marks-requires-clause-earlier c =
    let a = c.args.b.now in
    let e =
    keeps_trans a c.new.new.b c.begin_vars.new.b (extends_keeps a c.new.new.b c.new.ensures.extends)
    (extends_keeps c.new.new.b c.begin_vars.new.b c.begin_vars.ensures.extends) in
    earlier_now a c.begin_vars.new.b (form c.args.pipe.now) c.args.shared.now c.args.earlier.now e c.requires.shared c.requires.earlier

pub begin_marks-requires-clause-frame : goal.begin_marks-requires-clause-frame
begin_marks-requires-clause-frame c =
    let a = c.args.b.now in
    let f = form c.args.pipe.now in
    let b0 = c.new.new.b in
    let b1 = c.begin_vars.new.b in
    let e0 = extends_keeps a b0 c.new.ensures.extends in
    let e1 = keeps_trans a b0 b1 e0 (extends_keeps b0 b1 c.begin_vars.ensures.extends) in
    let r = c.begin_vars.new.regs in
    frame_to a f c.args.earlier.now c.args.shared.now c.requires.shared c.requires.earlier b1 e1 b1 r
    (frame_from a f c.args.earlier.now c.args.shared.now c.requires.shared c.requires.earlier b0 e0 b1 r c.in_ok-vars.ensures.frame)

pub begin_tickets-requires-clause-shared : goal.begin_tickets-requires-clause-shared
begin_tickets-requires-clause-shared c =
    let a = c.args.b.now in
    let b1 = c.begin_vars.new.b in
    let b2 = c.begin_marks.new.b in
    let e1 = keeps_trans a c.new.new.b b1 (extends_keeps a c.new.new.b c.new.ensures.extends) (extends_keeps c.new.new.b b1 c.begin_vars.ensures.extends) in
    let e = keeps_trans a b1 b2 e1 (extends_keeps b1 b2 c.begin_marks.ensures.extends) in
    shared_keep a b2 (form c.args.pipe.now) c.args.shared.now e c.requires.shared

pub begin_tickets-requires-clause-frame : goal.begin_tickets-requires-clause-frame
begin_tickets-requires-clause-frame c =
    let a = c.args.b.now in
    let f = form c.args.pipe.now in
    let b1 = c.begin_vars.new.b in
    let b2 = c.begin_marks.new.b in
    let e1 = keeps_trans a c.new.new.b b1 (extends_keeps a c.new.new.b c.new.ensures.extends) (extends_keeps c.new.new.b b1 c.begin_vars.ensures.extends) in
    let e2 = keeps_trans a b1 b2 e1 (extends_keeps b1 b2 c.begin_marks.ensures.extends) in
    let r = c.begin_marks.new.regs in
    frame_to a f c.args.earlier.now c.args.shared.now c.requires.shared c.requires.earlier b2 e2 b2 r
    (frame_from a f c.args.earlier.now c.args.shared.now c.requires.shared c.requires.earlier b1 e1 b2 r c.in_ok-marks.ensures.frame)

pub begin_guess-requires-clause-shared : goal.begin_guess-requires-clause-shared
begin_guess-requires-clause-shared c =
    let a = c.args.b.now in
    let b1 = c.begin_vars.new.b in
    let b2 = c.begin_marks.new.b in
    let b3 = c.begin_tickets.new.b in
    let e1 = keeps_trans a c.new.new.b b1 (extends_keeps a c.new.new.b c.new.ensures.extends) (extends_keeps c.new.new.b b1 c.begin_vars.ensures.extends) in
    let e2 = keeps_trans a b1 b2 e1 (extends_keeps b1 b2 c.begin_marks.ensures.extends) in
    let e = keeps_trans a b2 b3 e2 (extends_keeps b2 b3 c.begin_tickets.ensures.extends) in
    shared_keep a b3 (form c.args.pipe.now) c.args.shared.now e c.requires.shared

pub begin_guess-requires-clause-earlier : goal.begin_guess-requires-clause-earlier
begin_guess-requires-clause-earlier c =
    let a = c.args.b.now in
    let b1 = c.begin_vars.new.b in
    let b2 = c.begin_marks.new.b in
    let b3 = c.begin_tickets.new.b in
    let e1 = keeps_trans a c.new.new.b b1 (extends_keeps a c.new.new.b c.new.ensures.extends) (extends_keeps c.new.new.b b1 c.begin_vars.ensures.extends) in
    let e2 = keeps_trans a b1 b2 e1 (extends_keeps b1 b2 c.begin_marks.ensures.extends) in
    let e = keeps_trans a b2 b3 e2 (extends_keeps b2 b3 c.begin_tickets.ensures.extends) in
    earlier_now a b3 (form c.args.pipe.now) c.args.shared.now c.args.earlier.now e c.requires.shared c.requires.earlier

pub begin_guess-requires-clause-frame : goal.begin_guess-requires-clause-frame
begin_guess-requires-clause-frame c =
    let a = c.args.b.now in
    let f = form c.args.pipe.now in
    let b1 = c.begin_vars.new.b in
    let b2 = c.begin_marks.new.b in
    let b3 = c.begin_tickets.new.b in
    let e1 = keeps_trans a c.new.new.b b1 (extends_keeps a c.new.new.b c.new.ensures.extends) (extends_keeps c.new.new.b b1 c.begin_vars.ensures.extends) in
    let e2 = keeps_trans a b1 b2 e1 (extends_keeps b1 b2 c.begin_marks.ensures.extends) in
    let e3 = keeps_trans a b2 b3 e2 (extends_keeps b2 b3 c.begin_tickets.ensures.extends) in
    let r = c.begin_tickets.new.regs in
    frame_to a f c.args.earlier.now c.args.shared.now c.requires.shared c.requires.earlier b3 e3 b3 r
    (frame_from a f c.args.earlier.now c.args.shared.now c.requires.shared c.requires.earlier b2 e2 b3 r c.in_ok-tickets.ensures.frame)

pub begin_guess-requires-clause-vars : goal.begin_guess-requires-clause-vars
begin_guess-requires-clause-vars c =
    let b1 = c.begin_vars.new.b in
    let b2 = c.begin_marks.new.b in
    let b3 = c.begin_tickets.new.b in
    let e13 = keeps_trans b1 b2 b3 (extends_keeps b1 b2 c.begin_marks.ensures.extends) (extends_keeps b2 b3 c.begin_tickets.ensures.extends) in
    subst (NetsThere b3) (sym c.as_slice.ensures) (there_keeps b1 b3 c.in_ok-vars.vars e13 c.in_ok-vars.ensures.vars.there)

pub begin_guess-requires-clause-wide : goal.begin_guess-requires-clause-wide
begin_guess-requires-clause-wide c =
    let b1 = c.begin_vars.new.b in
    let b2 = c.begin_marks.new.b in
    let b3 = c.begin_tickets.new.b in
    let e13 = keeps_trans b1 b2 b3 (extends_keeps b1 b2 c.begin_marks.ensures.extends) (extends_keeps b2 b3 c.begin_tickets.ensures.extends) in
    ap (λ xs. widths_of (signals_in b3 xs)) c.as_slice.ensures
    ∙ ap widths_of (signals_keep b1 b3 c.in_ok-vars.vars e13 c.in_ok-vars.ensures.vars.there)
    ∙ c.in_ok-vars.ensures.vars.wide

pub begin_answers-requires-clause-shared : goal.begin_answers-requires-clause-shared
begin_answers-requires-clause-shared c =
    let a = c.args.b.now in
    let b1 = c.begin_vars.new.b in
    let b2 = c.begin_marks.new.b in
    let b3 = c.begin_tickets.new.b in
    let b4 = c.begin_guess.new.b in
    let e1 = keeps_trans a c.new.new.b b1 (extends_keeps a c.new.new.b c.new.ensures.extends) (extends_keeps c.new.new.b b1 c.begin_vars.ensures.extends) in
    let e2 = keeps_trans a b1 b2 e1 (extends_keeps b1 b2 c.begin_marks.ensures.extends) in
    let e3 = keeps_trans a b2 b3 e2 (extends_keeps b2 b3 c.begin_tickets.ensures.extends) in
    let e = keeps_trans a b3 b4 e3 (extends_keeps b3 b4 c.begin_guess.ensures.extends) in
    shared_keep a b4 (form c.args.pipe.now) c.args.shared.now e c.requires.shared

pub begin_answers-requires-clause-vars : goal.begin_answers-requires-clause-vars
begin_answers-requires-clause-vars c =
    let b1 = c.begin_vars.new.b in
    let b2 = c.begin_marks.new.b in
    let b3 = c.begin_tickets.new.b in
    let b4 = c.begin_guess.new.b in
    let e13 = keeps_trans b1 b2 b3 (extends_keeps b1 b2 c.begin_marks.ensures.extends) (extends_keeps b2 b3 c.begin_tickets.ensures.extends) in
    let e14 = keeps_trans b1 b3 b4 e13 (extends_keeps b3 b4 c.begin_guess.ensures.extends) in
    subst (NetsThere b4) (sym c.as_slice-2.ensures) (there_keeps b1 b4 c.in_ok-vars.vars e14 c.in_ok-vars.ensures.vars.there)

pub begin_answers-requires-clause-wide : goal.begin_answers-requires-clause-wide
begin_answers-requires-clause-wide c =
    let b1 = c.begin_vars.new.b in
    let b2 = c.begin_marks.new.b in
    let b3 = c.begin_tickets.new.b in
    let b4 = c.begin_guess.new.b in
    let e13 = keeps_trans b1 b2 b3 (extends_keeps b1 b2 c.begin_marks.ensures.extends) (extends_keeps b2 b3 c.begin_tickets.ensures.extends) in
    let e14 = keeps_trans b1 b3 b4 e13 (extends_keeps b3 b4 c.begin_guess.ensures.extends) in
    ap (λ xs. widths_of (signals_in b4 xs)) c.as_slice-2.ensures
    ∙ ap widths_of (signals_keep b1 b4 c.in_ok-vars.vars e14 c.in_ok-vars.ensures.vars.there)
    ∙ c.in_ok-vars.ensures.vars.wide

pub returns-clause-begun : goal.returns-clause-begun
returns-clause-begun c =
    let a = c.args.b.now in
    let f = form c.args.pipe.now in
    let x = c.args.earlier.now in
    let sh = c.args.shared.now in
    let k = earlier_count x in
    let nexts = signals_in a sh.next in
    let us = earlier_views a x in
    let b0 = c.new.new.b in
    let b1 = c.begin_vars.new.b in
    let b2 = c.begin_marks.new.b in
    let b3 = c.begin_tickets.new.b in
    let b4 = c.begin_guess.new.b in
    let d = c.begin_answers.new.b in
    let r1 = c.begin_vars.new.regs in
    let r2 = c.begin_marks.new.regs in
    let r3 = c.begin_tickets.new.regs in
    let r4 = c.begin_guess.new.regs in
    let shared = c.requires.shared in
    let earlier = c.requires.earlier in
    let e0 = extends_keeps a b0 c.new.ensures.extends in
    let e1 = keeps_trans a b0 b1 e0 (extends_keeps b0 b1 c.begin_vars.ensures.extends) in
    let e2 = keeps_trans a b1 b2 e1 (extends_keeps b1 b2 c.begin_marks.ensures.extends) in
    let e3 = keeps_trans a b2 b3 e2 (extends_keeps b2 b3 c.begin_tickets.ensures.extends) in
    let e4 = keeps_trans a b3 b4 e3 (extends_keeps b3 b4 c.begin_guess.ensures.extends) in
    let k4 = extends_keeps b4 d c.begin_answers.ensures.extends in
    let k3 = keeps_trans b3 b4 d (extends_keeps b3 b4 c.begin_guess.ensures.extends) k4 in
    let k2 = keeps_trans b2 b3 d (extends_keeps b2 b3 c.begin_tickets.ensures.extends) k3 in
    let k1 = keeps_trans b1 b2 d (extends_keeps b1 b2 c.begin_marks.ensures.extends) k2 in
    let l3 = c.in_ok-guess.ensures.longer in
    let l2 = longer_trans r2 r3 r4 c.in_ok-tickets.ensures.longer l3 in
    let l1 = longer_trans r1 r2 r4 c.in_ok-marks.ensures.longer l2 in
    let vars = c.in_ok-vars.vars in
    let marks = c.in_ok-marks.marks in
    let tickets = c.in_ok-tickets.tickets in
    let guess = c.in_ok-guess.guess in
    let begun = c.in_ok-begun.begun in
    let same3 = next_keep a b2 f sh e2 shared in
    let frame4 = frame_from a f x sh shared earlier b3 e3 b4 r4 c.in_ok-guess.ensures.frame in
    let vars1 = vars_from a f x sh shared earlier b0 e0 b1 r1 (lives_from f.pipe k) f.widths vars c.in_ok-vars.ensures.vars in
    let marks2 = marks_from a f x sh shared earlier b1 e1 b2 r2 marks c.in_ok-marks.ensures.begun in
    let tickets3 =
    subst
    (λ fs. AreBegun b3 f fs r3 Ticket (goes_with f.pipe k) (λ m. IsSettled f.pipe us k (Ticket m)) (widths_of fs) tickets) same3
    (c.in_ok-tickets.ensures.tickets us) in
    let k13 = keeps_trans b1 b2 b3 (extends_keeps b1 b2 c.begin_marks.ensures.extends) (extends_keeps b2 b3 c.begin_tickets.ensures.extends) in
    let there3 = there_keeps b1 b3 vars k13 c.in_ok-vars.ensures.vars.there in
    let spared : ℕ → Signal → Type 0 = (λ i. IsSpared f.pipe us k (signals_in d vars) (Guess i)) in
    let guess0 =
    subst
    (λ ys. AreBegun b4 f (signals_in b3 sh.next) r4 Guess (λ i. verifies_from f.pipe k)
    (λ i. IsSparedAfter b3 f x ys (Guess i))
    (param_widths f) guess) c.as_slice.ensures c.in_ok-guess.ensures.guess in
    let guess4 =
    guess_from a f x sh shared earlier b3 e3 b4 d r4 (λ i. verifies_from f.pipe k) (param_widths f) vars guess (signals_keep b3 d vars k3 there3) guess0 in
    let next3 = subst (λ fs. AreNextTickets b3 f.pipe fs k tickets) same3 c.in_ok-tickets.ensures.same in
    let now3 = signals_keep b3 d tickets k3 tickets3.there in
    let answered = subst (λ ys. AreAnswered d f (answers_in b4 sh.ports.now) k ys begun) c.as_slice-2.ensures c.in_ok-begun.ensures.answered in
    let s : StageNets = record { regs = r4; vars = vars; begun = begun; marks = marks; tickets = tickets; guess = guess; end = c.in_ok-end.end } in
    let fresh0 = subst (λ ys. IsFresh sh.bits ys c.as_slice-4.result.now c.as_slice-5.result.now c.in_ok-end.end) c.as_slice-3.ensures c.in_ok-end.ensures in
    let fresh1 = subst (λ hs. IsFresh sh.bits begun hs c.as_slice-5.result.now c.in_ok-end.end) c.as_slice-4.ensures fresh0 in
    let fresh = subst (λ gs. IsFresh sh.bits begun marks gs c.in_ok-end.end) c.as_slice-5.ensures fresh1 in
    let parts : HasParts d f nexts (answers_in a sh.ports.now) us k sh.bits s = record {
      frame = record { last = frame4.last ∙ sym (ap length c.begin_answers.ensures.regs); registers = registers_keep b4 d f nexts k r4 k4 frame4.registers };
      own = c.in_ok-guess.ensures.own;
      vars = begun_keep f nexts Var (lives_from f.pipe k) (λ y. IsSettled f.pipe us k (Var y)) f.widths b1 d r1 r4 vars k1 l1 vars1;
      marks = marks_keep f nexts us k b2 d r2 r4 marks k2 l2 marks2;
      all = all_marks_from a f x sh shared earlier b1 e1 marks c.in_ok-marks.ensures.whole;
      tickets = begun_keep f nexts Ticket (goes_with f.pipe k) (λ m. IsSettled f.pipe us k (Ticket m)) (widths_of nexts) b3 d r3 r4 tickets k3 l3 tickets3;
      next = λ m low no. ap (λ fs. signal_at fs m) now3 ∙ next3 m low no;
      guess = begun_keep f nexts Guess (λ i. verifies_from f.pipe k) spared (param_widths f) b4 d r4 r4 guess k4 (longer_none r4) guess4;
      answered = record {
        there = answered.there;
        wide = answered.wide;
        answered = λ y l. answered.answered y l ∙ answer_same a b4 e4 f.pipe sh.ports.now k y (signal_at (signals_in d vars) y) shared.ports;
      };
      bits_are = bits_keep a d sh.bits (keeps_trans a b4 d e4 k4) shared.bits;
      fresh = fresh;
    } in
    begun_is d f nexts (answers_in a sh.ports.now) us k sh.bits s parts c.requires.typed earlier.count (λ y j l low. past_ended a f nexts x y j l earlier low)
