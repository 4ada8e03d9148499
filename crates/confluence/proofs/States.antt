-- A run of a calm text is in one of three states: the root takes steps of its own (Running), or waits for a pipeline (Busy),
-- or has exited and what it has printed is still to be read (Draining). Every move leads from such a state to such a state.
use mathlib.Core.Path.{◌∙◌, ◌≡◌, ap, refl, subst, sym}
use mathlib.Core.Logic.{◌⊎◌, inl, inr}
use mathlib.Core.Bool.{◌||◌, Bool, false, true}
use mathlib.Core.List.{[], ◌++◌, ◌∷◌, List}
use mathlib.Core.Option.{none, some}
use Prim.Native.Nat.{◌+◌, ◌<◌, ◌≤◌, suc, ℕ}
use native.Mathlib.Omega.{arith}
use lib.ListN.{length}
use Rattle.syntax.specs.Base.{nth, opt, pick}
use Rattle.syntax.specs.Tree.{and_part, Command, CommandList, piped, Pipeline, substitution, Word}
use Rattle.meaning.specs.System.{at_pipeline, at_words, Control, exit_status, Expansion, find_process, Frame, handle_is, Process, Purpose, replace, System, writes_pipe}
use Rattle.meaning.specs.Words.{with_parts}
use Rattle.meaning.specs.Step.{move, pipeline_length, settle, spawn_pipeline, step_pipeline, with_control}
use Rattle.meaning.proofs.Own.{found_pid, other_there}
use Rattle.meaning.proofs.Core.{no_some}
use Rattle.confluence.proofs.Basics.{eqb_no, eqb_self, equal_or_not, length_app, nth_old, nth_snoc, or_left, or_right, order}
use Rattle.confluence.proofs.Chain.{Row}
use Rattle.confluence.proofs.Renaming.{l_words, LikeControl}
use Rattle.confluence.proofs.Local.{Fixed, Local, local_step, Table}
use Rattle.confluence.proofs.Simulation.{Grown}
use Rattle.confluence.proofs.Restrictions.{OkCommand, OkList, OkMembers}
use Rattle.confluence.proofs.Discipline.{At, Between, OkFrames, substitution_parts, WordAt}
use Rattle.confluence.proofs.Processes.{find_low, mover}
use Rattle.confluence.proofs.Holding.{held_by, process_holds}
use Rattle.confluence.proofs.Sinks.{before_before, before_sink_not, before_sink_old, Below, below_later, NotSink, on_paper, on_pipe, received, Sink, SinkBefore, sink_before_new, sink_handle, sink_not_new, SinkWritten, up_to_before}
use Rattle.confluence.proofs.Pipeline.{input_handle, Member, Next, output_handle, Phase, phase_move, Setup}
use Rattle.confluence.proofs.Path.{child, kind_of, kind_of_word, Level, list_from, member_starts, one_substitution, resume, resume_captured, with_not}
use Rattle.confluence.proofs.Spawn.{members, new_handles, new_pipes, none_members, output_of_last, Rest, spawned_handles, spawned_pipes, spawned_processes, spawned_rest}
use Rattle.confluence.proofs.Root.{Active, After, fixed_table, like_pipeline, Over, Untouched}
use Rattle.confluence.proofs.Await.{members_at_start, phase_end, setup, spawned, stdout_of_last, Waits}
use Rattle.confluence.proofs.Stack.{active_keep, AllDisjoint, Capture, capture_step, Captured, capturing_holds, capturing_process, fixed_kept, IsCapture, OnlyReads, phase_keep, read_all, read_more, ReadStep, Stack, stack_keep, stack_read}
use Rattle.confluence.proofs.Substitution.{child_process, Drain, drain_end, drain_keep, drain_read, empty_disjoint, exit_drains, fixed_disjoint, new_capture, old_disjoint, outside_stack, substitution_starts, with_child}

abbrev pub levels : List Capture → List Level
levels [] = []
levels (v ∷ vs) = v.level ∷ levels vs

-- the processes below r are those that capture
abbrev pub Known : System → ℕ → List Capture → Type 0
Known s r vs = (q : ℕ) (w : Process) → find_process s.processes q ≡ some w → q < r → IsCapture q vs

pub record Running (s : System) (vs : List Capture) (y : Local) (base : List ℕ) : Type 0 where
  pub root_pid : ℕ
  pub sink : Sink
  pub stdout_handle : ℕ
  pub active : Active root_pid sink stdout_handle s y
  pub stack : Stack s root_pid sink vs
  pub disjoint : AllDisjoint active.table s vs
  pub known : Known s root_pid vs
  pub received_is : received sink s ≡ base

pub record Busy (s : System) (vs : List Capture) (y : Local) (base : List ℕ) : Type 0 where
  pub root_pid : ℕ
  pub sink : Sink
  pub stdout_handle : ℕ
  pub process : Process
  pub negated : Bool
  pub command : Command
  pub others : Pipeline
  pub first_pid : ℕ
  pub first_pipe : ℕ
  pub first_handle : ℕ
  pub table : List ℕ
  pub later : root_pid < first_pid
  pub sink_earlier : Below sink first_pid
  pub not_sink : (j : ℕ) → NotSink sink (first_pipe + j)
  pub D : ℕ → Member
  pub phase : Phase (setup y process negated command others first_pid first_pipe first_handle table base root_pid sink later sink_earlier not_sink) s D
  pub waits : Waits stdout_handle y process negated command others
  pub stack : Stack s root_pid sink vs
  pub root_disjoint : AllDisjoint table s vs
  pub member_disjoint : (j : ℕ) → j < suc (pipeline_length others) → AllDisjoint (D j).table s vs
  pub gap : (z : ℕ) → root_pid < z → z < first_pid → find_process s.processes z ≡ none
  pub sink_before : SinkBefore sink first_pipe
  pub sink_low : Below sink root_pid
  pub known : Known s root_pid vs

pub record Draining (s : System) (vs : List Capture) (y : Local) (base : List ℕ) : Type 0 where
  pub capture : Capture
  pub total : List ℕ
  pub drain : Drain s capture vs total
  pub sink_before : SinkBefore capture.sink capture.pipe
  pub known : Known s capture.pid vs
  pub resumes : y ≡ resume_captured capture.level.local s.files capture.level.quoted capture.level.expansion capture.level.purpose total
  pub before : base ≡ capture.level.base

abbrev pub State : System → List Capture → Local → List ℕ → Type 0
State s vs y base = Running s vs y base ⊎ (Busy s vs y base ⊎ Draining s vs y base)

-- tables that are disjoint stay so when one of them grows by a new handle
grown_disjoint : (s t : System) (table table' : List ℕ) → ((i : ℕ) → i < length s.handles → Fixed (nth s.handles i)
    → Fixed (nth t.handles i)) → Grown table s table' t → (vs : List Capture) (r : ℕ) (k : Sink) → Stack s r k vs → AllDisjoint table s vs
    → AllDisjoint table' t vs
grown_disjoint s t table table' kp gr [] r k st aa = tt
grown_disjoint s t table table' kp gr (v ∷ vs) r k st aa = (by gr, grown_disjoint s t table table' kp gr vs v.pid v.sink st.6 aa.1)
  where
    rg : (b i : ℕ) → nth v.table b ≡ some i → i < length s.handles
    rg b i y = st.4.simulates.agrees.within b i y

    old : (a b i : ℕ) → nth table a ≡ some i → nth v.table b ≡ some i → Fixed (nth t.handles i)
    old a b i x y = kp i (rg b i y) (aa.0 a b i x y)

    by : Grown table s table' t → (a b i : ℕ) → nth table' a ≡ some i → nth v.table b ≡ some i → Fixed (nth t.handles i)
    by (inl e) a b i x y = old a b i (ap (λ z. nth z a) (sym e) ∙ x) y
    by (inr e) a b i x y = new (nth_snoc table (length s.handles) a i (ap (λ z. nth z a) (sym e) ∙ x))
      where
        new : (nth table a ≡ some i) ⊎ ((a ≡ length table) × (i ≡ length s.handles)) → Fixed (nth t.handles i)
        new (inl z) = old a b i z y
        new (inr z) = absurd (omega (arith, z.1, rg b i y))

-- what a step of the root leaves to those below it
untouched_stack : (r : ℕ) (k : Sink) (table : List ℕ) (s t : System) (vs : List Capture) → Untouched r k table s t → AllDisjoint table s vs → Stack s r k vs → Stack t r k vs
untouched_stack r k table s t vs o1 aa st = stack_keep s t table vs r k o1.longer o1.others
    (λ q l. o1.finds q (λ e. absurd (omega (arith, e, l)))) (λ q l. o1.statuses q (λ e. absurd (omega (arith, e, l))))
    (λ q u. o1.pipes q (before_sink_not k q u)) o1.paper aa st

untouched_known : (r : ℕ) (k : Sink) (table : List ℕ) (s t : System) (vs : List Capture) → Untouched r k table s t → Known s r vs → Known t r vs
untouched_known r k table s t vs o1 kn q w e l = kn q w (sym (o1.finds q (λ z. absurd (omega (arith, z, l)))) ∙ e) l

-- what a read by one of those below leaves to the others
read_known : (s t : System) (r : ℕ) (k : Sink) (vs : List Capture) → ReadStep s t r k vs → Known s r vs → Known t r vs
read_known s t r k vs rr kn q w e l = by (equal_or_not q rr.reader)
  where
    by : (q ≡ rr.reader) ⊎ (q ≡ rr.reader → ⊥) → IsCapture q vs
    by (inl z) = subst (λ i. IsCapture i vs) (sym z) rr.is_capture
    by (inr n) = kn q w (sym (rr.reads.finds q n) ∙ e) l

reads_fixed : (a p : ℕ) (s t : System) → OnlyReads a p s t → (i : ℕ) → i < length s.handles → Fixed (nth s.handles i) → Fixed (nth t.handles i)
reads_fixed a p s t fo i l h = subst (λ os. Fixed (nth os i)) (sym fo.handles) h

-- the root holds the end of the pipe that it writes to
active_holds : (r : ℕ) (k : Sink) (b1 : ℕ) (s : System) (y : Local) → Active r k b1 s y → SinkWritten k s
active_holds r k b1 s y al = by k al.out0
  where
    by : (z : Sink) → nth s.handles b1 ≡ some (sink_handle z) → SinkWritten z s
    by on_paper e = tt
    by (on_pipe p g) e = process_holds s.processes r al.process 0 b1 false s.handles (writes_pipe p)
        (or_right (handle_is s.handles (writes_pipe p) 0) _ (ap (λ o. opt o false (writes_pipe p)) e ∙ eqb_self p)) al.found al.disciplined

-- the root at work: one of those below reads a byte
pub running_read : (s t : System) (vs : List Capture) (y : Local) (base : List ℕ) (q : ℕ) (st : Running s vs y base) → q < st.root_pid → move s q ≡ some t → Running t vs y base
running_read s t vs y base q st l mv = record {
  root_pid = st.root_pid;
  sink = st.sink;
  stdout_handle = st.stdout_handle;
  active = af.0;
  stack = rr.stack;
  disjoint = subst (λ m. AllDisjoint m t vs) (sym af.1) (grown_disjoint s t st.active.table st.active.table
      (reads_fixed rr.reader rr.pipe s t rr.reads) (inl refl) vs st.root_pid st.sink st.stack st.disjoint);
  known = read_known s t st.root_pid st.sink vs rr st.known;
  received_is = rr.received_is ∙ st.received_is;
}
  where
    fd : (w : Process) × (find_process s.processes q ≡ some w)
    fd = mover s t q mv

    rr : ReadStep s t st.root_pid st.sink vs
    rr = stack_read s t q vs st.root_pid st.sink st.stack st.active.sink_alive
        (active_holds st.root_pid st.sink st.stdout_handle s y st.active) (st.known q fd.0 fd.1 l) mv

    af : (a2 : Active st.root_pid st.sink st.stdout_handle t y) × (a2.table ≡ st.active.table)
    af = active_keep st.root_pid st.sink st.stdout_handle s t y rr.reader rr.pipe rr.lt rr.reads rr.sink_alive st.active

-- a step of its own
pub running_after : (s t : System) (vs : List Capture) (y : Local) (base : List ℕ) (st : Running s vs y base)
    (af : After st.root_pid st.sink st.stdout_handle st.active.table s y t) → Untouched st.root_pid st.sink st.active.table s t
    → Running t vs af.0 (base ++ af.3.0)
running_after s t vs y base st af o1 = record {
  root_pid = st.root_pid;
  sink = st.sink;
  stdout_handle = st.stdout_handle;
  active = af.1;
  stack = untouched_stack st.root_pid st.sink st.active.table s t vs o1 st.disjoint st.stack;
  disjoint = grown_disjoint s t st.active.table af.1.table (fixed_kept s t st.active.table o1.others) af.2 vs st.root_pid
      st.sink st.stack st.disjoint;
  known = untouched_known st.root_pid st.sink st.active.table s t vs o1 st.known;
  received_is = af.3.1 ∙ ap (λ z. z ++ af.3.0) st.received_is;
}

-- it exits, and a process below has still to read
pub running_over : (s t : System) (v : Capture) (vs : List Capture) (y : Local) (base : List ℕ) (st : Running s (v ∷ vs) y base)
    → Over st.root_pid st.sink s y t → Untouched st.root_pid st.sink st.active.table s t
    → Draining t vs (resume_captured v.level.local t.files v.level.quoted v.level.expansion v.level.purpose
    (received st.sink s)) v.level.base
running_over s t v vs y base st ov o1 = record {
  capture = v;
  total = received st.sink s;
  drain = exit_drains st.root_pid st.sink st.stdout_handle s t y st.active v vs st.stack st.disjoint st.known ov o1;
  sink_before = st.stack.2;
  known = kn;
  resumes = refl;
  before = refl;
}
  where
    kn : Known t v.pid vs
    kn q w e l = by (st.known q w (sym (o1.finds q (λ z. absurd (omega (arith, z, l, st.stack.1)))) ∙ e) (omega (arith, l, st.stack.1)))
      where
        by : IsCapture q (v ∷ vs) → IsCapture q vs
        by (inl z) = absurd (omega (arith, z, l))
        by (inr z) = z

-- it begins a pipeline
not_frames : (b1 : ℕ) (m : Bool) (k : List Frame) → OkFrames 0 b1 false k → OkFrames 0 b1 false (with_not m k)
not_frames b1 true k h = h
not_frames b1 false k h = h

pub running_pipeline : (s : System) (vs : List Capture) (y : Local) (base : List ℕ) (st : Running s vs y base) (m : Bool) (c : Command) (p : Pipeline)
    → st.active.process.control ≡ at_pipeline m (piped c p) → Busy (settle st.active.process
    (step_pipeline s st.active.process m (piped c p))) vs y (received st.sink s)
running_pipeline s vs y base st m c p ce = record {
  root_pid = r;
  sink = k;
  stdout_handle = st.stdout_handle;
  process = w;
  negated = m;
  command = c;
  others = p;
  first_pid = s.next_pid;
  first_pipe = length s.pipes;
  first_handle = length s.handles;
  table = al.table;
  later = al.exists;
  sink_earlier = below_later k r s.next_pid al.exists al.sink_low;
  not_sink = λ j. sink_not_new k s j al.sink_alive;
  D = members_at_start y w c p (length s.handles);
  phase = ph;
  waits = record {
    at_pipeline = like_pipeline (Table al.table) w.control
        y.process.control m c p ce al.simulates.like.control;
    frames_ok = not_frames st.stdout_handle m w.frames pl.1.0;
    stdin_is = pl.1.1;
    stdout_is = pl.1.2;
    functions = al.disciplined.functions;
    jobs = al.disciplined.jobs;
  };
  stack = stack_keep s t [] vs r k (omega (arith, ap length to, length_app s.handles (new_handles (piped c p) (length s.pipes))))
      (λ i h f. old i h) (λ i h. fl i (omega (arith, h, al.exists)) (λ e. absurd (omega (arith, e, h))))
      (λ i h. ap (λ z. exit_status z i) rs.exited) (λ i u. oldp i (before_sink_old k s i al.sink_alive u)) (λ i e. rs.paper)
      (empty_disjoint s vs) st.stack;
  root_disjoint = old_disjoint al.table s t old al.simulates.agrees.within vs st.disjoint;
  member_disjoint = λ j h. fixed_disjoint (members_at_start y w c p (length s.handles) j).table t
      (λ a i z. fixed_table (g.in0 j) (g.out0 j) (g.stdin_handle j) (g.stdout_handle j) t (input_handle g j h) (output_handle g j h)
      (ph.base j h).0 (ph.base j h).1 a i z) vs;
  gap = λ z h l. fl z l (λ e. absurd (omega (arith, e, h))) ∙ al.above z h;
  sink_before = sink_before_new k s al.sink_alive;
  sink_low = al.sink_low;
  known = λ q u e l. st.known q u
      (sym (fl q (omega (arith, l, al.exists)) (λ z. absurd (omega (arith, z, l)))) ∙ e) l;
}
  where
    r : ℕ
    r = st.root_pid

    k : Sink
    k = st.sink

    al : Active st.root_pid st.sink st.stdout_handle s y
    al = st.active

    w : Process
    w = al.process

    pl : (OkCommand true c × OkMembers p) × Between 0 st.stdout_handle false w.frames w.stdin w.stdout
    pl = subst (λ d. At 0 st.stdout_handle false d w.frames w.stdin w.stdout) ce al.disciplined.place

    t : System
    t = settle w (step_pipeline s w m (piped c p))

    T : System
    T = spawn_pipeline s w (piped c p) w.stdin

    ms : List Process
    ms = members w (piped c p) s.next_pid (length s.handles) w.stdin

    wp : w.pid ≡ r
    wp = found_pid s.processes r w al.found

    rs : Rest s T (pipeline_length (piped c p))
    rs = spawned_rest s w (piped c p) w.stdin

    g : Setup
    g = setup y w m c p s.next_pid (length s.pipes) (length s.handles) al.table (received k s) r k al.exists
        (below_later k r s.next_pid al.exists al.sink_low) (λ j. sink_not_new k s j al.sink_alive)

    ph : Phase g t (members_at_start y w c p (length s.handles))
    ph = spawned r k st.stdout_handle s y al m c p pl.0 pl.1.1 pl.1.2

    fl : (q : ℕ) → q < s.next_pid → (q ≡ r → ⊥) → find_process t.processes q ≡ find_process s.processes q
    fl q h n = other_there T.processes w.pid q (with_control w _ _) (λ z. n (z ∙ wp)) refl
        ∙ ap (λ z. find_process z q) (spawned_processes s w (piped c p) w.stdin)
        ∙ find_low s.processes ms q (none_members w (piped c p) s.next_pid (length s.handles) w.stdin q h)

    to : t.handles ≡ s.handles ++ new_handles (piped c p) (length s.pipes)
    to = spawned_handles s w (piped c p) w.stdin

    old : (i : ℕ) → i < length s.handles → nth t.handles i ≡ nth s.handles i
    old i h = ap (λ os. nth os i) to ∙ nth_old s.handles (new_handles (piped c p) (length s.pipes)) i h

    oldp : (i : ℕ) → i < length s.pipes → nth t.pipes i ≡ nth s.pipes i
    oldp i h = ap (λ ps. nth ps i) (spawned_pipes s w (piped c p) w.stdin) ∙ nth_old s.pipes (new_pipes (piped c p)) i h

-- it begins a $( )
words_like : (ρ : Bool → ℕ → ℕ → Type 0) (x : Expansion) (z : Purpose) (d : Control) → LikeControl ρ false (at_words x z) d → d ≡ at_words x z
words_like ρ x z d l_words = refl

pub running_substitution : (s : System) (vs : List Capture) (y : Local) (base : List ℕ) (st : Running s vs y base) (x : Expansion) (z : Purpose)
    (q : Bool) (l : CommandList) (rest : Word) → st.active.process.control ≡ at_words x z → x.parts ≡ and_part (substitution q l) rest
    → Running (with_child s st.active.process q l (with_parts x rest) z) (new_capture st.root_pid st.sink st.stdout_handle s y
    st.active.process st.active.table q (with_parts x rest) z ∷ vs) (child y l) []
running_substitution s vs y base st x z q l rest ce pe = record {
  root_pid = s.next_pid;
  sink = on_pipe (length s.pipes) r;
  stdout_handle = suc (length s.handles);
  active = nb.0;
  stack = nb.1;
  disjoint = nb.2;
  known = kn;
  received_is = nb.3;
}
  where
    r : ℕ
    r = st.root_pid

    al : Active st.root_pid st.sink st.stdout_handle s y
    al = st.active

    w : Process
    w = al.process

    t : System
    t = with_child s w q l (with_parts x rest) z

    sp : (false ≡ false) × (w.stdin ≡ 0) × OkList false l × WordAt 0 st.stdout_handle false (with_parts x rest) z w.frames w.stdin w.stdout
    sp = substitution_parts 0 st.stdout_handle false x z q l rest w.frames w.stdin w.stdout pe
        (subst (λ d. At 0 st.stdout_handle false d w.frames w.stdin w.stdout) ce al.disciplined.place)

    nb : (a2 : Active s.next_pid (on_pipe (length s.pipes) r) (suc (length s.handles)) t (child y l))
        × Stack t s.next_pid (on_pipe (length s.pipes) r) (new_capture r st.sink st.stdout_handle s y w al.table q
        (with_parts x rest) z ∷ vs) × AllDisjoint a2.table t (new_capture r st.sink st.stdout_handle s y w al.table q
        (with_parts x rest) z ∷ vs) × (received (on_pipe (length s.pipes) r) t ≡ [])
    nb = substitution_starts r st.sink st.stdout_handle s y al vs st.stack st.disjoint q l (with_parts x rest) z sp.1 sp.2 sp.3

    wp : w.pid ≡ r
    wp = found_pid s.processes r w al.found

    fl : (i : ℕ) → i < s.next_pid → (i ≡ r → ⊥) → find_process t.processes i ≡ find_process s.processes i
    fl i h n = other_there (s.processes ++ (child_process s w l ∷ [])) w.pid i (with_control w _ _) (λ e. n (e ∙ wp)) refl
        ∙ find_low s.processes (child_process s w l ∷ []) i (ap (λ b. pick b (some (child_process s w l)) none)
        (eqb_no s.next_pid i (λ e. absurd (omega (arith, e, h)))))

    kn : Known t s.next_pid (new_capture r st.sink st.stdout_handle s y w al.table q (with_parts x rest) z ∷ vs)
    kn i u e h = by (order i r)
      where
        by : (i < r) ⊎ ((i ≡ r) ⊎ (r < i)) → (i ≡ r) ⊎ IsCapture i vs
        by (inl f) = inr (st.known i u (sym (fl i h (λ g. absurd (omega (arith, f, g)))) ∙ e) f)
        by (inr (inl f)) = inl f
        by (inr (inr f)) = absurd (no_some (sym (al.above i f) ∙ sym (fl i h (λ g. absurd (omega (arith, f, g)))) ∙ e))

pub substitution_kind : (s : System) (vs : List Capture) (y : Local) (base : List ℕ) (st : Running s vs y base) (x : Expansion) (z : Purpose)
    (q : Bool) (l : CommandList) (rest : Word) → st.active.process.control ≡ at_words x z → x.parts ≡ and_part (substitution q l) rest
    → kind_of y y.process.control ≡ one_substitution q l (with_parts x rest) z
substitution_kind s vs y base st x z q l rest ce pe = ap (kind_of y) (words_like (Table st.active.table) x z y.process.control
    (subst (λ d. LikeControl (Table st.active.table) false d y.process.control) ce st.active.simulates.like.control))
    ∙ ap (λ v. kind_of_word y x z v) pe

-- the root waits for a pipeline: it holds the end that it writes to
busy_holds : (s : System) (vs : List Capture) (y : Local) (base : List ℕ) (bz : Busy s vs y base) → SinkWritten bz.sink s
busy_holds s vs y base bz = by bz.sink (ap (λ z. nth s.handles z) (sym (stdout_of_last bz.process.stdout (piped bz.command bz.others)
    bz.first_handle (pipeline_length bz.others) refl)) ∙ (bz.phase.base (pipeline_length bz.others) (omega arith)).1
    ∙ ap some (output_of_last (sink_handle bz.sink) (piped bz.command bz.others) bz.first_pipe (pipeline_length bz.others) refl))
  where
    by : (z : Sink) → nth s.handles bz.process.stdout ≡ some (sink_handle z) → SinkWritten z s
    by on_paper e = tt
    by (on_pipe p g) e = held_by s.processes bz.root_pid (setup y bz.process bz.negated bz.command bz.others bz.first_pid
        bz.first_pipe bz.first_handle bz.table base bz.root_pid bz.sink bz.later bz.sink_earlier bz.not_sink).root
        s.handles (writes_pipe p) bz.phase.rooted (or_left (handle_is s.handles (writes_pipe p) bz.process.stdin || handle_is
        s.handles (writes_pipe p) bz.process.stdout) _ (or_right (handle_is s.handles (writes_pipe p) bz.process.stdin)
        (handle_is s.handles (writes_pipe p) bz.process.stdout) (ap (λ o. opt o false (writes_pipe p)) e ∙ eqb_self p)))

-- one of those below reads a byte
pub busy_read : (s t : System) (vs : List Capture) (y : Local) (base : List ℕ) (q : ℕ) (bz : Busy s vs y base) → q < bz.root_pid → move s q ≡ some t → Busy t vs y base
busy_read s t vs y base q bz l mv = record {
  root_pid = bz.root_pid;
  sink = bz.sink;
  stdout_handle = bz.stdout_handle;
  process = bz.process;
  negated = bz.negated;
  command = bz.command;
  others = bz.others;
  first_pid = bz.first_pid;
  first_pipe = bz.first_pipe;
  first_handle = bz.first_handle;
  table = bz.table;
  later = bz.later;
  sink_earlier = bz.sink_earlier;
  not_sink = bz.not_sink;
  D = bz.D;
  phase = phase_keep _ s t bz.D rr.reader rr.pipe rr.lt (λ j e. absurd
      (omega (arith, e, up_to_before bz.sink rr.pipe bz.first_pipe bz.sink_before rr.up_to))) rr.reads rr.received_is
      rr.sink_alive bz.phase;
  waits = bz.waits;
  stack = rr.stack;
  root_disjoint = ga bz.table bz.root_disjoint;
  member_disjoint = λ j h. ga (bz.D j).table (bz.member_disjoint j h);
  gap = λ z h i. rr.reads.finds z
      (λ e. absurd (omega (arith, e, h, rr.lt))) ∙ bz.gap z h i;
  sink_before = bz.sink_before;
  sink_low = bz.sink_low;
  known = read_known s t bz.root_pid bz.sink vs rr bz.known;
}
  where
    fd : (w : Process) × (find_process s.processes q ≡ some w)
    fd = mover s t q mv

    rr : ReadStep s t bz.root_pid bz.sink vs
    rr = stack_read s t q vs bz.root_pid bz.sink bz.stack bz.phase.sink_alive (busy_holds s vs y base bz) (bz.known q fd.0 fd.1 l) mv

    ga : (table : List ℕ) → AllDisjoint table s vs → AllDisjoint table t vs
    ga table h = grown_disjoint s t table table (reads_fixed rr.reader rr.pipe s t rr.reads) (inl refl) vs bz.root_pid bz.sink bz.stack h

-- a member of the pipeline takes a step
pub busy_member : (s t : System) (vs : List Capture) (y : Local) (base : List ℕ) (q : ℕ) (bz : Busy s vs y base) → bz.first_pid ≤ q → move s q ≡ some t → Busy t vs y base
busy_member s t vs y base q bz l mv = record {
  root_pid = bz.root_pid;
  sink = bz.sink;
  stdout_handle = bz.stdout_handle;
  process = bz.process;
  negated = bz.negated;
  command = bz.command;
  others = bz.others;
  first_pid = bz.first_pid;
  first_pipe = bz.first_pipe;
  first_handle = bz.first_handle;
  table = bz.table;
  later = bz.later;
  sink_earlier = bz.sink_earlier;
  not_sink = bz.not_sink;
  D = nx.0.0;
  phase = nx.0.1;
  waits = bz.waits;
  stack = outside_stack g s t bz.D nx.0.0 vs nx.1 bz.stack
      (bz.member_disjoint nx.1.j nx.1.lt) (λ i u j e. absurd (omega (
        arith,
        e,
        before_before bz.sink i bz.first_pipe bz.sink_before u,
      )));
  root_disjoint = grown_disjoint s t bz.table bz.table kp (inl refl) vs
      bz.root_pid bz.sink bz.stack bz.root_disjoint;
  member_disjoint = λ j h. grown_disjoint s t (bz.D j).table (nx.0.0 j).table kp
      (nx.1.grown j h) vs bz.root_pid bz.sink bz.stack (bz.member_disjoint j h);
  gap = λ z h i. nx.1.trans.finds z (λ e. absurd (omega (arith, e, i))) ∙ bz.gap z h i;
  sink_before = bz.sink_before;
  sink_low = bz.sink_low;
  known = λ i u e h. bz.known i u (sym (nx.1.trans.finds i (λ z. absurd (omega (arith, z, h, bz.later)))) ∙ e) h;
}
  where
    g : Setup
    g = setup y bz.process bz.negated bz.command bz.others bz.first_pid bz.first_pipe bz.first_handle bz.table base
        bz.root_pid bz.sink bz.later bz.sink_earlier bz.not_sink

    nx : Next g s bz.D t
    nx = phase_move g s t bz.D q bz.phase l mv

    kp : (i : ℕ) → i < length s.handles → Fixed (nth s.handles i) → Fixed (nth t.handles i)
    kp = fixed_kept s t (bz.D nx.1.j).table nx.1.trans.others

-- all members have exited, and the root goes on
abbrev pub Resumed : System → List Capture → (y : Local) → List ℕ → Bool → Command → Pipeline → Type 0
Resumed t vs y base m c p = (i : ℕ) × (o : List ℕ) × Running t vs (resume y m i) (base ++ o)
    × Row Local local_step (member_starts y c p 0) (list_from (member_starts y c p) 1 (pipeline_length p)) [] true o i

pub busy_end : (s t : System) (vs : List Capture) (y : Local) (base : List ℕ) (bz : Busy s vs y base) → move s bz.root_pid ≡ some t
    → Resumed t vs y base bz.negated bz.command bz.others
busy_end s t vs y base bz mv =
    let pe = phase_end bz.stdout_handle s t y bz.process bz.negated bz.command bz.others bz.first_pid bz.first_pipe
    bz.first_handle bz.table base bz.root_pid bz.sink bz.later bz.sink_earlier bz.not_sink bz.D bz.phase bz.waits
    bz.sink_low bz.gap mv in
    let o1 = pe.1 in (
      pe.0.0,
      pe.0.1,
      record {
        root_pid = bz.root_pid;
        sink = bz.sink;
        stdout_handle = bz.stdout_handle;
        active = pe.0.2;
        stack = untouched_stack bz.root_pid bz.sink bz.table s t vs o1 bz.root_disjoint bz.stack;
        disjoint = subst (λ m. AllDisjoint m t vs) (sym pe.0.3) (grown_disjoint s t bz.table bz.table
            (fixed_kept s t bz.table o1.others) (inl refl) vs bz.root_pid bz.sink bz.stack bz.root_disjoint);
        known = untouched_known bz.root_pid bz.sink bz.table s t vs o1 bz.known;
        received_is = pe.0.4;
      },
      pe.0.5,
    )

-- the root has exited: one of those below the reader reads a byte
pub drain_below : (s t : System) (vs : List Capture) (y : Local) (base : List ℕ) (q : ℕ) (dn : Draining s vs y base) → q < dn.capture.pid
    → move s q ≡ some t → Draining t vs y base
drain_below s t vs y base q dn l mv = record {
  capture = dn.capture;
  total = dn.total;
  drain = drain_keep s t dn.capture vs dn.total dn.drain dn.sink_before rr;
  sink_before = dn.sink_before;
  known = read_known s t dn.capture.pid dn.capture.sink vs rr dn.known;
  resumes = dn.resumes ∙ ap (λ fs. resume_captured dn.capture.level.local fs dn.capture.level.quoted dn.capture.level.expansion
      dn.capture.level.purpose dn.total) (sym rr.reads.files);
  before = dn.before;
}
  where
    fd : (w : Process) × (find_process s.processes q ≡ some w)
    fd = mover s t q mv

    rr : ReadStep s t dn.capture.pid dn.capture.sink vs
    rr = stack_read s t q vs dn.capture.pid dn.capture.sink dn.drain.stack dn.drain.capturing.sink_alive
        (capturing_holds s dn.capture dn.drain.capturing) (dn.known q fd.0 fd.1 l) mv

-- the reader reads a byte, or all is read and it goes on
drain_known : (s : System) (vs : List Capture) (y : Local) (base : List ℕ) (dn : Draining s vs y base) (u : Process) → u.pid ≡ dn.capture.pid
    → (t : System) → t.processes ≡ replace s.processes dn.capture.pid u → Known t dn.capture.pid vs
drain_known s vs y base dn u up t e q w f l = dn.known q w (sym (ap (λ ws. find_process ws q) e
    ∙ other_there s.processes dn.capture.pid q u (λ z. absurd (omega (arith, z, l))) up) ∙ f) l

pub drain_step : (s t : System) (vs : List Capture) (y : Local) (base : List ℕ) (dn : Draining s vs y base) → move s dn.capture.pid ≡ some t
    → Draining t vs y base ⊎ Running t vs (resume_captured dn.capture.level.local s.files dn.capture.level.quoted
    dn.capture.level.expansion dn.capture.level.purpose dn.total) dn.capture.level.base
drain_step s t vs y base dn mv = by (capture_step s t v dr.capturing dr.child_sink.3.0 dr.child_sink.3.1 mv)
  where
    v : Capture
    v = dn.capture

    dr : Drain s dn.capture vs dn.total
    dr = dn.drain

    wp : v.process.pid ≡ v.pid
    wp = found_pid s.processes v.pid (capturing_process v dr.capturing.bytes) dr.capturing.found

    by : Captured s v dr.capturing.bytes dr.child_sink.3.0 t → Draining t vs y base
        ⊎ Running t vs (resume_captured v.level.local s.files v.level.quoted v.level.expansion v.level.purpose dn.total)
        v.level.base
    by (inl z) = inl (subst (λ u. Draining u vs y base) (sym z.3) (record {
      capture = v;
      total = dn.total;
      drain = drain_read s v vs dn.total dr dn.sink_before z.0 z.1 (dr.child_sink.3.1 ∙ ap some z.2);
      sink_before = dn.sink_before;
      known = drain_known s vs y base dn (capturing_process v (dr.capturing.bytes ++ (z.0 ∷ []))) wp
          (read_more s v dr.capturing.bytes z.0 z.1) refl;
      resumes = dn.resumes;
      before = dn.before;
    }))
    by (inr z) =
        let de = drain_end s v vs dn.total dr (dr.child_sink.3.1 ∙ ap some z.0) in
        inr (subst (λ u. Running u vs (resume_captured v.level.local s.files v.level.quoted v.level.expansion v.level.purpose
        dn.total) v.level.base) (sym z.2) (record {
          root_pid = v.pid;
          sink = v.sink;
          stdout_handle = v.stdout_handle;
          active = de.0;
          stack = de.1;
          disjoint = de.2;
          known = drain_known s vs y base dn (with_control v.process _ _) wp
              (read_all s v dr.capturing.bytes) refl;
          received_is = de.3;
        }))
