-- The root begins a pipeline and waits for it. When all members have exited, the pipeline is a row of deterministic processes,
-- so the root goes on with the one status, and the one output has been written.
use mathlib.Core.Path.{◌∙◌, ◌≡◌, ap, refl, subst, sym}
use mathlib.Core.Logic.{◌⊎◌, inl, inr}
use mathlib.Core.Bool.{Bool, false, true}
use mathlib.Core.List.{[], ◌++◌, ◌∷◌, List}
use mathlib.Core.Option.{none, Option, some}
use Prim.Native.Nat.{◌+◌, ◌<◌, ◌≤◌, suc, zero, ℕ}
use native.Mathlib.Omega.{arith}
use lib.ListN.{length}
use lib.Dec.{ltb}
use Rattle.syntax.specs.Base.{nth, on_some, opt}
use Rattle.syntax.specs.Tree.{Command, piped, Pipeline, single}
use Rattle.meaning.specs.System.{at_pipeline, at_status, at_wait, Control, exit_status, find_process, Frame, host_input, pipe_read, Process, replace, System, with_processes}
use Rattle.meaning.specs.Step.{completes, move, pids_from, pipeline_length, settle, spawn_pipeline, step, step_wait, StepResult, with_control}
use Rattle.meaning.proofs.Own.{found_pid, inside, other_there}
use Rattle.meaning.proofs.Core.{no_some}
use Rattle.confluence.proofs.Basics.{app_nil, length_app, nth_lt, nth_old}
use Rattle.confluence.proofs.Chain.{finished, inputs, outputs, Read_from, Row}
use Rattle.confluence.proofs.Renaming.{l_not, l_status, l_wait, LikeFrames}
use Rattle.confluence.proofs.Local.{Alike, Fixed, Local, local_step, Table}
use Rattle.confluence.proofs.Simulation.{Simulates}
use Rattle.confluence.proofs.Restrictions.{OkCommand, OkMembers}
use Rattle.confluence.proofs.Discipline.{OkFrames}
use Rattle.confluence.proofs.Processes.{find_high, find_low, found_replace, Unique, unique_append, unique_replace}
use Rattle.confluence.proofs.Buffers.{buffered_read, same_handles}
use Rattle.confluence.proofs.Sinks.{Below, below_later, NotSink, received, received_kept, Sink, sink_alive_after, sink_handle, sink_not_new, sink_pipe}
use Rattle.confluence.proofs.Pipeline.{exited, has_exited, input_handle, killed, Member, MemberState, Mode, output_handle, Phase, running, Setup}
use Rattle.confluence.proofs.Path.{list_from, member_command, member_starts, resume, with_not}
use Rattle.confluence.proofs.Spawn.{find_members, input_at, input_of_next, known_members, member, member_ok, members, new_handles, new_pipe_empty, new_pipes, none_members, output_at, output_of_last, output_to_next, Rest, spawned_handles, spawned_pipes, spawned_processes, spawned_rest, stdin_at, stdin_open, stdout_at, stdout_open, unique_members}
use Rattle.confluence.proofs.Root.{Active, fixed_table, member_simulates, Untouched}

-- a pipeline begins
abbrev pub waiting : ℕ → Pipeline → Control
waiting n p = at_wait (pids_from n (pipeline_length p))

abbrev pub setup : (y : Local) (w : Process) (m : Bool) (c : Command) (p : Pipeline) (n q l : ℕ) (table paper : List ℕ) (r : ℕ) (k : Sink) → r < n
    → Below k n → ((j : ℕ) → NotSink k (q + j)) → Setup
setup y w m c p n q l table paper r k h b a = record {
  count = suc (pipeline_length p);
  first_pid = n;
  locals = member_starts y c p;
  in0 = input_at host_input (piped c p) q;
  out0 = output_at (sink_handle k) (piped c p) q;
  stdin_handle = stdin_at (piped c p) l w.stdin;
  stdout_handle = stdout_at w.stdout (piped c p) l;
  pipe_of = λ j. q + j;
  root = with_control w (waiting n (piped c p)) (with_not m w.frames);
  root_local = record { system = y.system; process = with_control y.process (waiting n (piped c p)) (with_not m y.process.frames) };
  root_table = table;
  before = paper;
  root_pid = r;
  sink = k;
  root_before = h;
  sink_low = b;
  away = a;
  first = refl;
  nexts = λ j z. input_of_next host_input (piped c p) q j z;
  middle = λ j z. output_to_next (sink_handle k) (piped c p) q j z;
  last = λ j z. output_of_last (sink_handle k) (piped c p) q j z;
  pipes_distinct = λ j k e. omega (arith, e);
}

abbrev pub members_at_start : (y : Local) (w : Process) (c : Command) (p : Pipeline) (l : ℕ) → ℕ → Member
members_at_start y w c p l j = record {
  events = [];
  local = member_starts y c p j;
  table = stdin_at (piped c p) l w.stdin j ∷ stdout_at w.stdout (piped c p) l j ∷ [];
  mode = running;
}

with_not_like : (ρ : Bool → ℕ → ℕ → Type 0) (m : Bool) (k j : List Frame) → LikeFrames ρ false k j → LikeFrames ρ false (with_not m k) (with_not m j)
with_not_like ρ true k j h = l_not h
with_not_like ρ false k j h = h

pub spawned : (r : ℕ) (k : Sink) (bo1 : ℕ) (s : System) (y : Local) (al : Active r k bo1 s y) (m : Bool) (c : Command) (p : Pipeline)
    → OkCommand true c × OkMembers p → al.process.stdin ≡ 0 → al.process.stdout ≡ bo1
    → Phase (setup y al.process m c p s.next_pid (length s.pipes) (length s.handles) al.table (received k s) r k al.exists
    (below_later k r s.next_pid al.exists al.sink_low) (λ j. sink_not_new k s j al.sink_alive))
    (with_processes (spawn_pipeline s al.process (piped c p) al.process.stdin)
    (replace (spawn_pipeline s al.process (piped c p) al.process.stdin).processes al.process.pid
    (with_control al.process (waiting s.next_pid (piped c p)) (with_not m al.process.frames))))
    (members_at_start y al.process c p (length s.handles))
spawned r k bo1 s y al m c p ok wi wo = record {
  members = λ j h. (
    member al.process (member_command (piped c p) j) (s.next_pid + j) (b0 j)
        (b1 j),
    fj j h,
    record { place = (member_ok (piped c p) j ok, (tt, refl, refl)); functions = al.disciplined.functions; jobs = refl },
    lk j h,
    gn (s.next_pid + j) (omega arith),
  );
  in_range = λ j h. (lk j h).agrees.within;
  disjoint = λ j k h l n a b i q1 q. fx j h a i q1;
  traces = λ j h. refl;
  first_reads = refl;
  contents = λ j h. (
    [],
    ap (λ z. nth z (length s.pipes + j)) tp
        ∙ new_pipe_empty s.pipes (piped c p) j (length s.pipes) refl h,
    refl,
  );
  paper = λ j h. received_kept k s t r al.sink_low
      (λ q l. fl q (omega (arith, al.exists)) (λ z. absurd (omega (arith, z, l)))) rs.paper
      (λ a b z. let e = sink_pipe k s a b z al.sink_alive in ap (λ ps. nth ps a) tp
      ∙ nth_old s.pipes (new_pipes (piped c p)) a (nth_lt s.pipes a e.0 e.1)) ∙ sym (app_nil (received k s));
  sink_alive = sink_alive_after k r s t al.sink_low (λ q l. fl q (omega (arith, al.exists)) (λ z. absurd (omega (arith, z, l))))
      (λ i a f. ap (λ os. nth os i) to ∙ nth_old s.handles _ i (nth_lt s.handles i (pipe_read a) f)
      ∙ f) (λ a b z. let e = sink_pipe k s a b z al.sink_alive in (
        e.0,
        ap (λ ps. nth ps a) tp
            ∙ nth_old s.pipes (new_pipes (piped c p)) a (nth_lt s.pipes a e.0 e.1) ∙ e.1,
      )) al.sink_alive;
  base = λ j h. (bi j h, bo j h);
  known = kn;
  rooted = fr1;
  root_simulates = rl;
  root_disjoint = λ j h a b i q1 q. fx j h a i q1;
  input = rs.input ∙ al.input;
  root_not_exited = ap (λ z. exit_status z r) rs.exited ∙ al.not_exited;
  once = on1;
  next_is = rs.next1;
  fresh = λ q h. gn q (omega arith);
}
  where
    g : Setup
    g = setup y al.process m c p s.next_pid (length s.pipes) (length s.handles) al.table (received k s) r k al.exists
        (below_later k r s.next_pid al.exists al.sink_low) (λ j. sink_not_new k s j al.sink_alive)

    v : Process
    v = with_control al.process (waiting s.next_pid (piped c p)) (with_not m al.process.frames)

    wp : al.process.pid ≡ r
    wp = found_pid s.processes r al.process al.found

    T : System
    T = spawn_pipeline s al.process (piped c p) al.process.stdin

    t : System
    t = with_processes T (replace T.processes al.process.pid v)

    ms : List Process
    ms = members al.process (piped c p) s.next_pid (length s.handles) al.process.stdin

    b0 : ℕ → ℕ
    b0 j = stdin_at (piped c p) (length s.handles) al.process.stdin j

    b1 : ℕ → ℕ
    b1 j = stdout_at al.process.stdout (piped c p) (length s.handles) j

    rs : Rest s T (pipeline_length (piped c p))
    rs = spawned_rest s al.process (piped c p) al.process.stdin

    tw : T.processes ≡ s.processes ++ ms
    tw = spawned_processes s al.process (piped c p) al.process.stdin

    hi : (q : ℕ) → s.next_pid ≤ q → find_process s.processes q ≡ none
    hi q h = al.above q (omega (arith, h, al.exists))

    lo : (q : ℕ) → q < s.next_pid → find_process ms q ≡ none
    lo q h = none_members al.process (piped c p) s.next_pid (length s.handles) al.process.stdin q h

    fl : (q : ℕ) → q < s.next_pid → (q ≡ r → ⊥) → find_process t.processes q ≡ find_process s.processes q
    fl q h n = other_there T.processes al.process.pid q v (λ z. n (z ∙ wp)) refl ∙ ap (λ z. find_process z q) tw ∙ find_low s.processes ms q (lo q h)

    fh : (q : ℕ) → s.next_pid ≤ q → find_process t.processes q ≡ find_process ms q
    fh q h = other_there T.processes al.process.pid q v (λ z. absurd (omega (arith, z, wp, h, al.exists))) refl
        ∙ ap (λ z. find_process z q) tw ∙ find_high s.processes ms q (hi q h)

    fr1 : find_process t.processes r ≡ some v
    fr1 = subst (λ q. find_process (replace T.processes al.process.pid v) q ≡ some v) wp
        (found_replace T.processes al.process.pid al.process v (ap (λ z. find_process z al.process.pid) tw
        ∙ find_low s.processes ms al.process.pid (lo al.process.pid (omega (arith, wp, al.exists)))
        ∙ ap (λ q. find_process s.processes q) wp ∙ al.found) refl)

    on1 : Unique t.processes
    on1 = unique_replace T.processes al.process.pid v refl (subst Unique (sym tw)
        (unique_append s.processes ms s.next_pid al.once (unique_members al.process (piped c p) s.next_pid (length s.handles)
        al.process.stdin) hi lo))

    to : t.handles ≡ s.handles ++ new_handles (piped c p) (length s.pipes)
    to = spawned_handles s al.process (piped c p) al.process.stdin

    tp : t.pipes ≡ s.pipes ++ new_pipes (piped c p)
    tp = spawned_pipes s al.process (piped c p) al.process.stdin

    bi : (j : ℕ) → j < suc (pipeline_length p) → nth t.handles (b0 j) ≡ some (input_at host_input (piped c p) (length s.pipes) j)
    bi j h = ap (λ z. nth z (b0 j)) to ∙ stdin_open s.handles host_input (piped c p) (length s.pipes) (length s.handles)
        al.process.stdin j refl (ap (λ n. nth s.handles n) wi ∙ al.in0) h

    bo : (j : ℕ) → j < suc (pipeline_length p) → nth t.handles (b1 j) ≡ some (output_at (sink_handle k) (piped c p) (length s.pipes) j)
    bo j h = ap (λ z. nth z (b1 j)) to ∙ stdout_open s.handles (sink_handle k) (piped c p) (length s.pipes) (length s.handles)
        al.process.stdout j refl (ap (λ n. nth s.handles n) wo ∙ al.out0) h

    fj : (j : ℕ) → j < suc (pipeline_length p) → find_process t.processes (s.next_pid + j) ≡ some
        (member al.process (member_command (piped c p) j) (s.next_pid + j) (b0 j) (b1 j))
    fj j h = fh (s.next_pid + j) (omega arith) ∙ find_members al.process (piped c p) s.next_pid (length s.handles) al.process.stdin j (s.next_pid + j) h refl

    lk : (j : ℕ) → j < suc (pipeline_length p) → Simulates (input_at host_input (piped c p) (length s.pipes) j)
        (output_at (sink_handle k) (piped c p) (length s.pipes) j) (b0 j ∷ b1 j ∷ []) t
        (member al.process (member_command (piped c p) j) (s.next_pid + j) (b0 j) (b1 j)) (member_starts y c p j)
    lk j h = member_simulates _ _ (b0 j) (b1 j) (s.next_pid + j) t al.process y (member_command (piped c p) j) (input_handle g j h)
        (output_handle g j h) (bi j h) (bo j h) (rs.files ∙ al.simulates.agrees.files) al.simulates.like.variables
        al.simulates.like.functions al.simulates.like.arguments al.simulates.like.status

    gn : (q : ℕ) → s.next_pid ≤ q → exit_status t.exited q ≡ none
    gn q h = ap (λ z. exit_status z q) rs.exited ∙ al.fresh q h

    fx : (j : ℕ) → j < suc (pipeline_length p) → (a i : ℕ) → nth (b0 j ∷ b1 j ∷ []) a ≡ some i → Fixed (nth t.handles i)
    fx j h a i q1 = fixed_table _ _ (b0 j) (b1 j) t (input_handle g j h) (output_handle g j h) (bi j h) (bo j h) a i q1

    kn : (q : ℕ) (u : Process) → find_process t.processes q ≡ some u → (q < s.next_pid) ⊎ ((j : ℕ) × (j < suc (pipeline_length p)) × (q ≡ s.next_pid + j))
    kn q u e = by (ltb q s.next_pid) refl
      where
        by : (z : Bool) → ltb q s.next_pid ≡ z → (q < s.next_pid) ⊎ ((j : ℕ) × (j < suc (pipeline_length p)) × (q ≡ s.next_pid + j))
        by true f = inl (grind arith)
        by false f = inr (known_members al.process u (piped c p) s.next_pid (length s.handles) al.process.stdin q (sym (fh q (grind arith)) ∙ e))

    rl : Simulates host_input (sink_handle k) al.table t v g.root_local
    rl = let l = al.simulates in record {
      like = record {
        control = l_wait;
        frames = with_not_like (Table al.table) m al.process.frames
            y.process.frames l.like.frames;
        stdin = l.like.stdin;
        stdout = l.like.stdout;
        variables = l.like.variables;
        functions = l.like.functions;
        arguments = l.like.arguments;
        status = l.like.status;
        jobs = l.like.jobs;
      };
      agrees = record {
        lengths = l.agrees.lengths;
        within = λ a i q1. omega (
          arith,
          l.agrees.within a i q1,
          ap length to,
          length_app s.handles (new_handles (piped c p) (length s.pipes)),
        );
        once = l.agrees.once;
        alike = λ a i q1. subst (λ z. Alike host_input (sink_handle k) z (nth y.system.handles a))
            (sym (ap (λ z. nth z i) to ∙ nth_old s.handles _ i (l.agrees.within a i q1))) (l.agrees.alike a i q1);
        files = rs.files ∙ l.agrees.files;
      };
    }

-- a finished pipeline is a row
pub row_from : (g : Setup) (s : System) (D : ℕ → Member) (ph : Phase g s D) → ((j : ℕ) → j < g.count → (D j).mode ≡ running → ⊥) → (k j : ℕ)
    → j + suc k ≡ g.count → (ts : List ℕ) (c : Bool) → Read_from Local local_step (inputs (D j).events) ts c
    → (o : List ℕ) × (n : ℕ) × Row Local local_step (g.locals j) (list_from g.locals (suc j) k) ts c o n × (received g.sink s ≡ g.before ++ o)
    × (exit_status s.exited (g.first_pid + (j + k)) ≡ some n)
row_from g s D ph dead zero j e ts c h = by (D j).mode refl (ph.members j (omega (arith, e)))
  where
    by : (mo : Mode) → (D j).mode ≡ mo → MemberState g mo s j (D j) → (o : List ℕ) × (n : ℕ) × Row Local local_step (g.locals j) [] ts c o n
        × (received g.sink s ≡ g.before ++ o) × (exit_status s.exited (g.first_pid + (j + zero)) ≡ some n)
    by running q st = absurd (dead j (omega (arith, e)) q)
    by exited q st = (
      outputs (D j).events,
      st.1.0,
      ((D j).events, (D j).local, ph.traces j (omega (arith, e)), h, st.1.1, refl),
      ph.paper j (omega (arith, e)),
      subst (λ z. exit_status s.exited (g.first_pid + z) ≡ some st.1.0) (omega arith) st.1.2,
    )
    by killed q st = absurd (omega (arith, st.1, e))
row_from g s D ph dead (suc k) j e ts c h =
    let lt : suc j < g.count = omega (arith, e) in
    let t = ph.contents j lt in
    let r = row_from g s D ph dead k (suc j) (omega (arith, e)) (outputs (D j).events) (has_exited (D j).mode)
    (buffered_read (inputs (D (suc j)).events) (outputs (D j).events) t.0 (has_exited (D j).mode) t.2) in (
      r.0,
      r.1,
      (
        (D j).events,
        (D j).local,
        has_exited (D j).mode,
        ph.traces j (omega (arith, e)),
        h,
        by (D j).mode (ph.members j (omega (arith, e))),
        r.2,
      ),
      r.3,
      subst (λ z. exit_status s.exited (g.first_pid + z) ≡ some r.1)
          (omega arith) r.4,
    )
  where
    by : (mo : Mode) → MemberState g mo s j (D j) → has_exited mo ≡ true → (m : ℕ) × (local_step (D j).local ≡ finished m)
    by running st f = absurd (subst (λ z. pick2 z) f tt)
      where
        pick2 : Bool → Type 0
        pick2 true = ⊥
        pick2 false = Unit {0}
    by exited st f = (st.1.0, st.1.1)
    by killed st f = absurd (subst (λ z. pick2 z) f tt)
      where
        pick2 : Bool → Type 0
        pick2 true = ⊥
        pick2 false = Unit {0}

pub stdout_of_last : (o : ℕ) (p : Pipeline) (l j : ℕ) → suc j ≡ pipeline_length p → stdout_at o p l j ≡ o
stdout_of_last o (single c) l j h = refl
stdout_of_last o (piped c p) l zero h = absurd (zero_many p (omega (arith, h)))
  where
    zero_many : (p : Pipeline) → pipeline_length p ≡ 0 → ⊥
    zero_many (single c) e = absurd (omega (arith, e))
    zero_many (piped c p) e = absurd (omega (arith, e))
stdout_of_last o (piped c p) l (suc j) h = stdout_of_last o p (suc (suc l)) j (omega (arith, h))

all_exited : (s : System) (w : Process) (k n acc : ℕ) (a : StepResult) → step_wait s w acc (pids_from n k) ≡ some a
    → (m : ℕ) × (k ≡ 0 → m ≡ acc) × ((j : ℕ) → suc j ≡ k → exit_status s.exited (n + j) ≡ some m)
    × ((j : ℕ) → j < k → exit_status s.exited (n + j) ≡ none → ⊥) × (a ≡ completes s w m)
all_exited s w zero n acc a e = (acc, λ h. refl, λ j h. absurd (omega (arith, h)), λ j h. absurd (omega arith), sym (inside e))
all_exited s w (suc k) n acc a e = by (exit_status s.exited n) refl e (λ m z. all_exited s w k (suc n) m a z)
  where
    by : (o : Option ℕ) → exit_status s.exited n ≡ o → opt o none (λ m. step_wait s w m (pids_from (suc n) k)) ≡ some a
        → ((m : ℕ) → step_wait s w m (pids_from (suc n) k) ≡ some a → (i : ℕ) × (k ≡ 0 → i ≡ m)
        × ((j : ℕ) → suc j ≡ k → exit_status s.exited (suc n + j) ≡ some i) × ((j : ℕ) → j < k → exit_status s.exited (suc n + j) ≡ none → ⊥)
        × (a ≡ completes s w i)) → (i : ℕ) × (suc k ≡ 0 → i ≡ acc) × ((j : ℕ) → suc j ≡ suc k → exit_status s.exited (n + j) ≡ some i)
        × ((j : ℕ) → j < suc k → exit_status s.exited (n + j) ≡ none → ⊥) × (a ≡ completes s w i)
    by none f g ih = absurd (no_some g)
    by (some m) f g ih =
        let r = ih m g in
        (r.0, λ h. absurd (omega (arith, h)), λ j h. last1 j h r.0 r.1 r.2, λ j h z. all1 j h r.3 z, r.4)
      where
        last1 : (j : ℕ) → suc j ≡ suc k → (i : ℕ) → (k ≡ 0 → i ≡ m) → ((j : ℕ) → suc j ≡ k → exit_status s.exited (suc n + j) ≡ some i)
            → exit_status s.exited (n + j) ≡ some i
        last1 zero h i p q = subst (λ z. exit_status s.exited z ≡ some i) (omega arith) (f ∙ ap some (sym (p (omega (arith, h)))))
        last1 (suc j) h i p q = subst (λ z. exit_status s.exited z ≡ some i) (omega arith) (q j (omega (arith, h)))

        all1 : (j : ℕ) → j < suc k → ((j : ℕ) → j < k → exit_status s.exited (suc n + j) ≡ none → ⊥) → exit_status s.exited (n + j) ≡ none → ⊥
        all1 zero h p z = no_some (sym (subst (λ q. exit_status s.exited q ≡ none) (omega arith) z) ∙ f)
        all1 (suc j) h p z = p j (omega arith) (subst (λ q. exit_status s.exited q ≡ none) (omega arith) z)

-- the root while it waits
pub record Waits (b1 : ℕ) (y : Local) (w : Process) (m : Bool) (c : Command) (p : Pipeline) : Type 0 where
  pub at_pipeline : y.process.control ≡ at_pipeline m (piped c p)
  pub frames_ok : OkFrames 0 b1 false (with_not m w.frames)
  pub stdin_is : w.stdin ≡ 0
  pub stdout_is : w.stdout ≡ b1
  pub functions : w.functions ≡ []
  pub jobs : w.jobs ≡ []

pub phase_end : (bo1 : ℕ) (s t : System) (y : Local) (w : Process) (m : Bool) (c : Command) (p : Pipeline) (n q l : ℕ) (table base : List ℕ) (r : ℕ)
    (k : Sink) (h : r < n) (b : Below k n) (aw : (j : ℕ) → NotSink k (q + j)) (D : ℕ → Member)
    → Phase (setup y w m c p n q l table base r k h b aw) s D → Waits bo1 y w m c p → Below k r
    → ((z : ℕ) → r < z → z < n → find_process s.processes z ≡ none) → move s r ≡ some t
    → ((i : ℕ) × (o : List ℕ) × (a2 : Active r k bo1 t (resume y m i)) × (a2.table ≡ table) × (received k t ≡ base ++ o)
    × Row Local local_step (member_starts y c p 0) (list_from (member_starts y c p) 1 (pipeline_length p)) [] true o i) × Untouched r k table s t
phase_end bo1 s t y w m c p n q l table base r k h b aw D ph wt lw gap e = end1 (subst (λ z. on_some z (λ w. on_some (step s w) (λ a. some (settle w a))) ≡ some t) ph.rooted e)
  where
    g : Setup
    g = setup y w m c p n q l table base r k h b aw

    wp : w.pid ≡ r
    wp = found_pid s.processes r g.root ph.rooted

    Goal : Type 0
    Goal = ((i : ℕ) × (o : List ℕ) × (a2 : Active r k bo1 t (resume y m i)) × (a2.table ≡ table) × (received k t ≡ base ++ o)
        × Row Local local_step (member_starts y c p 0) (list_from (member_starts y c p) 1 (pipeline_length p)) [] true o i) × Untouched r k table s t

    fin1 : (a : StepResult) → step_wait s g.root 0 (pids_from n (suc (pipeline_length p))) ≡ some a → some (settle g.root a) ≡ some t → Goal
    fin1 a f z0 =
        let aw1 = all_exited s g.root (suc (pipeline_length p)) n 0 a f in
        let rw1 = row_from g s D ph (λ j lt z. aw1.3 j lt (dead j lt z)) (pipeline_length p) 0 (omega arith) [] true
        (buffered_read (inputs (D 0).events) [] [] true ph.first_reads) in
        let same : rw1.1 ≡ aw1.0 = inside (sym rw1.4 ∙ subst (λ z. exit_status s.exited z ≡ some aw1.0) (omega arith) (aw1.2 (pipeline_length p) refl)) in
        let tt1 : settle g.root (completes s g.root rw1.1) ≡ t = ap (λ z. settle g.root (completes s g.root z)) same
        ∙ ap (settle g.root) (sym aw1.4) ∙ inside z0 in
        let ax : (a2 : Active r k bo1 t (resume y m rw1.1)) × (a2.table ≡ table) = subst
        (λ z. (a2 : Active r k bo1 z (resume y m rw1.1)) × (a2.table ≡ table)) tt1 (
          alone1 rw1.1 (λ j lt z. aw1.3 j lt (dead j lt z)),
          refl,
        ) in
        ((rw1.1, rw1.0, ax.0, ax.1, ap (received k) (sym tt1) ∙ sn rw1.1 ∙ rw1.3, rw1.2), subst (Untouched r k table s) tt1 (o1 rw1.1))
      where
        dead : (j : ℕ) → j < suc (pipeline_length p) → (D j).mode ≡ running → exit_status s.exited (n + j) ≡ none
        dead j lt z = (subst (λ mo. MemberState g mo s j (D j)) z (ph.members j lt)).4

        T : ℕ → System
        T i = settle g.root (completes s g.root i)

        fn2 : (i z : ℕ) → (z ≡ r → ⊥) → find_process (T i).processes z ≡ find_process s.processes z
        fn2 i z d = other_there s.processes w.pid z (with_control g.root (at_status i) g.root.frames) (λ e. d (e ∙ wp)) refl

        sn : (i : ℕ) → received k (T i) ≡ received k s
        sn i = received_kept k s (T i) r lw (λ z l. fn2 i z (λ e. absurd (omega (arith, e, l)))) refl (λ a c z. refl)

        o1 : (i : ℕ) → Untouched r k table s (T i)
        o1 i = record { input = refl; next1 = refl; longer = omega arith; others = λ z l f. refl; finds = fn2 i; statuses = λ z d. refl; pipes = λ z d. refl; paper = λ z d. refl }

        alone1 : (i : ℕ) → ((j : ℕ) → j < suc (pipeline_length p) → (D j).mode ≡ running → ⊥) → Active r k bo1 (T i) (resume y m i)
        alone1 i nd = record {
          process = v;
          found = subst (λ z. find_process (replace s.processes w.pid v) z ≡ some v) wp
              (found_replace s.processes w.pid g.root v (ap (λ z. find_process s.processes z) wp ∙ ph.rooted) refl);
          above = λ z lt. fn2 i z (λ e. absurd (omega (arith, e, lt))) ∙ no_one z lt (find_process s.processes z) refl;
          once = unique_replace s.processes w.pid v refl ph.once;
          disciplined = record {
            place = inl (
              wt.frames_ok,
              wt.stdin_is,
              wt.stdout_is,
            );
            functions = wt.functions;
            jobs = wt.jobs;
          };
          table = table;
          simulates = same_handles host_input (sink_handle k) table s (T i) _ (resume y m i) refl refl
              (record {
                like = record {
                  control = l_status;
                  frames = ph.root_simulates.like.frames;
                  stdin = ph.root_simulates.like.stdin;
                  stdout = ph.root_simulates.like.stdout;
                  variables = ph.root_simulates.like.variables;
                  functions = ph.root_simulates.like.functions;
                  arguments = ph.root_simulates.like.arguments;
                  status = ph.root_simulates.like.status;
                  jobs = ph.root_simulates.like.jobs;
                };
                agrees = ph.root_simulates.agrees;
              });
          in0 = ap (λ z. nth s.handles z) (sym wt.stdin_is) ∙ (ph.base 0 (omega arith)).0;
          out0 = ap (λ z. nth s.handles z) (sym (stdout_of_last w.stdout (piped c p) l (pipeline_length p) refl ∙ wt.stdout_is))
              ∙ (ph.base (pipeline_length p) (omega arith)).1 ∙ ap some (output_of_last (sink_handle k) (piped c p) q (pipeline_length p) refl);
          input = ph.input;
          fresh = λ z f. ph.fresh z (omega (arith, f, ph.next_is));
          not_exited = ph.root_not_exited;
          exists = omega (arith, ph.next_is, h);
          sink_low = lw;
          sink_alive = sink_alive_after k r s (T i) lw
              (λ z l. fn2 i z (λ e. absurd (omega (arith, e, l)))) (λ z a f. f) (λ a d z. sink_pipe k s a d z ph.sink_alive) ph.sink_alive;
        }
          where
            v : Process
            v = with_control g.root (at_status i) g.root.frames

            no_one : (z : ℕ) → r < z → (f : Option Process) → find_process s.processes z ≡ f → find_process s.processes z ≡ none
            no_one z lt none f = f
            no_one z lt (some u) f = by (ph.known z u f)
              where
                st : (j : ℕ) (lt : j < suc (pipeline_length p)) (mo : Mode) → (D j).mode ≡ mo → MemberState g mo s j (D j) → find_process s.processes (n + j) ≡ none
                st j lt running e z = absurd (nd j lt e)
                st j lt exited e z = z.0
                st j lt killed e z = z.0

                by : (z < n) ⊎ ((j : ℕ) × (j < suc (pipeline_length p)) × (z ≡ n + j)) → find_process s.processes z ≡ none
                by (inl x) = gap z lt x
                by (inr x) = ap (λ a. find_process s.processes a) x.2 ∙ st x.0 x.1 (D x.0).mode refl (ph.members x.0 x.1)

    end1 : on_some (step s g.root) (λ a. some (settle g.root a)) ≡ some t → Goal
    end1 z = by (step s g.root) refl z
      where
        by : (o : Option StepResult) → step s g.root ≡ o → on_some o (λ a. some (settle g.root a)) ≡ some t → Goal
        by none f z = absurd (no_some z)
        by (some a) f z = fin1 a f z
