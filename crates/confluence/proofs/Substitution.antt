-- A $( ) begins: the root captures from now on, and its child is the new root. The child exits: what it has printed is still
-- to be read, and then the process goes on with what was captured.
use mathlib.Core.Path.{◌∙◌, ◌≡◌, ap, refl, subst, sym}
use mathlib.Core.Logic.{◌⊎◌, inl, inr}
use mathlib.Core.Bool.{Bool, false, true}
use mathlib.Core.List.{[], ◌++◌, ◌∷◌, List}
use mathlib.Core.Option.{none, Option, some}
use Prim.Native.Nat.{◌<◌, ◌≤◌, suc, ℕ}
use native.Mathlib.Omega.{arith}
use lib.ListN.{length}
use lib.Dec.{ltb}
use Rattle.std.proofs.lemmas.Bool.{ltb-true, ltb-false}
use Rattle.syntax.specs.Base.{nth, pick}
use Rattle.syntax.specs.Tree.{CommandList, group, no_redirects}
use Rattle.meaning.specs.System.{at_capture, at_list, at_words, exit_status, Expansion, find_process, Handle, host_input, pipe_read, pipe_write, Process, Purpose, replace, System, with_processes}
use Rattle.meaning.specs.Words.{insert_value}
use Rattle.meaning.specs.Step.{new_pipe, spawn, trim, with_control}
use Rattle.meaning.proofs.Own.{found_pid, other_there}
use Rattle.meaning.proofs.Core.{no_some}
use Rattle.confluence.proofs.Basics.{app_nil, eqb_no, eqb_self, equal_or_not, length_two, nth_lt, nth_new, nth_old, nth_one, nth_two}
use Rattle.confluence.proofs.Renaming.{l_list, l_nil, l_status, l_words}
use Rattle.confluence.proofs.Local.{Alike, Fixed, Local}
use Rattle.confluence.proofs.Simulation.{Simulates}
use Rattle.confluence.proofs.Restrictions.{OkList}
use Rattle.confluence.proofs.Discipline.{captured_at, WordAt}
use Rattle.confluence.proofs.Processes.{find_high, find_low, found_replace, Unique, unique_append, unique_replace}
use Rattle.confluence.proofs.Sinks.{BeforeSink, before_sink_not, before_sink_old, Below, captured_by, on_paper, on_pipe, pipe_bytes, received, received_kept, received_same, SameSink, Sink, SinkAlive, sink_alive_after, sink_alive_same, SinkBefore, sink_before_new, sink_handle, sink_pipe, UpToSink}
use Rattle.confluence.proofs.Pipeline.{InRange, Member, Outside, Setup}
use Rattle.confluence.proofs.Path.{child, member_start, resume_captured}
use Rattle.confluence.proofs.Spawn.{member}
use Rattle.confluence.proofs.Root.{Active, fixed_table, member_simulates, Over, Untouched}
use Rattle.confluence.proofs.Stack.{AllDisjoint, Capture, Capturing, capturing_keep, capturing_process, IsCapture, read_all, read_more, read_one, ReadStep, Stack, stack_keep}

pub fixed_disjoint : (m : List ℕ) (t : System) → ((a i : ℕ) → nth m a ≡ some i → Fixed (nth t.handles i)) → (vs : List Capture) → AllDisjoint m t vs
fixed_disjoint m t f [] = tt
fixed_disjoint m t f (v ∷ vs) = (λ a b i x y. f a i x, fixed_disjoint m t f vs)

pub empty_disjoint : (s : System) (us : List Capture) → AllDisjoint [] s us
empty_disjoint s [] = tt
empty_disjoint s (u ∷ us) = (λ a b i x y. absurd (no_some x), empty_disjoint s us)

pub old_disjoint : (m : List ℕ) (s t : System) → ((i : ℕ) → i < length s.handles → nth t.handles i ≡ nth s.handles i) → InRange m s
    → (vs : List Capture) → AllDisjoint m s vs → AllDisjoint m t vs
old_disjoint m s t o rg [] h = tt
old_disjoint m s t o rg (v ∷ vs) h = (λ a b i x y. subst Fixed (sym (o i (rg a i x))) (h.0 a b i x y), old_disjoint m s t o rg vs h.1)

abbrev pub child_process : System → Process → CommandList → Process
child_process s w l = record {
  pid = s.next_pid;
  control = at_list l;
  frames = [];
  stdin = w.stdin;
  stdout = suc (length s.handles);
  variables = w.variables;
  functions = w.functions;
  arguments = w.arguments;
  status = w.status;
  jobs = [];
}

abbrev pub with_child : System → Process → Bool → CommandList → Expansion → Purpose → System
with_child s w q l x z = with_processes (spawn (new_pipe s) w (at_list l) w.stdin (suc (length s.handles)))
    (replace (s.processes ++ (child_process s w l ∷ [])) w.pid (with_control w (at_capture (length s.handles) [] q x z) w.frames))

abbrev pub new_capture : (r : ℕ) (k : Sink) (b1 : ℕ) (s : System) (y : Local) (w : Process) (table : List ℕ) → Bool → Expansion → Purpose → Capture
new_capture r k b1 s y w table q x z = record {
  level = record { local = y; base = received k s; quoted = q; expansion = x; purpose = z };
  pid = r;
  stdout_handle = b1;
  sink = k;
  process = w;
  table = table;
  handle = length s.handles;
  pipe = length s.pipes;
}

pub substitution_starts : (r : ℕ) (k : Sink) (b1 : ℕ) (s : System) (y : Local) (al : Active r k b1 s y) (vs : List Capture) → Stack s r k vs
    → AllDisjoint al.table s vs → (q : Bool) (l : CommandList) (x : Expansion) (z : Purpose) → al.process.stdin ≡ 0 → OkList false l
    → WordAt 0 b1 false x z al.process.frames al.process.stdin al.process.stdout
    → (a2 : Active s.next_pid (on_pipe (length s.pipes) r) (suc (length s.handles)) (with_child s al.process q l x z) (child y l))
    × Stack (with_child s al.process q l x z) s.next_pid (on_pipe (length s.pipes) r)
    (new_capture r k b1 s y al.process al.table q x z ∷ vs) × AllDisjoint a2.table (with_child s al.process q l x z)
    (new_capture r k b1 s y al.process al.table q x z ∷ vs) × (received (on_pipe (length s.pipes) r)
    (with_child s al.process q l x z) ≡ [])
substitution_starts r k b1 s y al vs st aa q l x z wi okl wa = (
  a2,
  (
    refl,
    al.exists,
    sink_before_new k s al.sink_alive,
    al.sink_low,
    lvl,
    old_disjoint al.table s t old al.simulates.agrees.within vs aa,
    stack_keep s t [] vs r k
        (omega (arith, length_two s.handles (pipe_read (length s.pipes)) (pipe_write (length s.pipes)))) (λ i h f. old i h)
        (λ i h. fl i (omega (arith, h, al.exists)) (λ e. absurd (omega (arith, e, h)))) (λ i h. refl)
        (λ i u. oldp i (before_sink_old k s i al.sink_alive u)) (λ i e. refl) (empty_disjoint s vs) st,
  ),
  fixed_disjoint (al.process.stdin ∷ suc (length s.handles) ∷ []) t (λ a i e. fixed_table host_input (pipe_write (length s.pipes))
      al.process.stdin (suc (length s.handles)) t tt tt bi bo a i e) (new_capture r k b1 s y al.process al.table q x z ∷ vs),
  (λ i. captured_by (fr1 i) ++ pipe_bytes (nth_new s.pipes [] i)),
)
  where
    w : Process
    w = al.process

    gw : Process
    gw = with_control w (at_capture (length s.handles) [] q x z) w.frames

    t : System
    t = with_child s w q l x z

    ms : List Process
    ms = child_process s w l ∷ []

    wp : w.pid ≡ r
    wp = found_pid s.processes r w al.found

    hi : (i : ℕ) → s.next_pid ≤ i → find_process s.processes i ≡ none
    hi i h = al.above i (omega (arith, h, al.exists))

    lo : (i : ℕ) → i < s.next_pid → find_process ms i ≡ none
    lo i h = ap (λ b. pick b (some (child_process s w l)) none) (eqb_no s.next_pid i (λ e. absurd (omega (arith, e, h))))

    fl : (i : ℕ) → i < s.next_pid → (i ≡ r → ⊥) → find_process t.processes i ≡ find_process s.processes i
    fl i h n = other_there (s.processes ++ ms) w.pid i gw (λ e. n (e ∙ wp)) refl ∙ find_low s.processes ms i (lo i h)

    fh : (i : ℕ) → s.next_pid ≤ i → find_process t.processes i ≡ find_process ms i
    fh i h = other_there (s.processes ++ ms) w.pid i gw (λ e. absurd (omega (arith, e, wp, h, al.exists))) refl ∙ find_high s.processes ms i (hi i h)

    fr1 : find_process t.processes r ≡ some gw
    fr1 = subst (λ i. find_process (replace (s.processes ++ ms) w.pid gw) i ≡ some gw) wp
        (found_replace (s.processes ++ ms) w.pid w gw (find_low s.processes ms w.pid (lo w.pid (omega (arith, wp, al.exists)))
        ∙ ap (λ i. find_process s.processes i) wp ∙ al.found) refl)

    old : (i : ℕ) → i < length s.handles → nth t.handles i ≡ nth s.handles i
    old i h = nth_old s.handles _ i h

    oldp : (i : ℕ) → i < length s.pipes → nth t.pipes i ≡ nth s.pipes i
    oldp i h = nth_old s.pipes ([] ∷ []) i h

    keep : (i : ℕ) (o : Handle) → nth s.handles i ≡ some o → nth t.handles i ≡ some o
    keep i o e = old i (nth_lt s.handles i o e) ∙ e

    bi : nth t.handles w.stdin ≡ some host_input
    bi = keep w.stdin host_input (ap (λ n. nth s.handles n) wi ∙ al.in0)

    bo : nth t.handles (suc (length s.handles)) ≡ some (pipe_write (length s.pipes))
    bo = nth_two s.handles (pipe_read (length s.pipes)) (pipe_write (length s.pipes))

    bf : nth t.handles (length s.handles) ≡ some (pipe_read (length s.pipes))
    bf = nth_one s.handles (pipe_read (length s.pipes)) (pipe_write (length s.pipes))

    ml : Simulates host_input (pipe_write (length s.pipes)) (w.stdin ∷ suc (length s.handles) ∷ []) t
        (member w (group l no_redirects) s.next_pid w.stdin (suc (length s.handles))) (member_start y (group l no_redirects))
    ml = member_simulates host_input (pipe_write (length s.pipes)) w.stdin (suc (length s.handles)) s.next_pid t w y
        (group l no_redirects) tt tt bi bo al.simulates.agrees.files al.simulates.like.variables al.simulates.like.functions
        al.simulates.like.arguments al.simulates.like.status

    a2 : Active s.next_pid (on_pipe (length s.pipes) r) (suc (length s.handles)) t (child y l)
    a2 = record {
      process = child_process s w l;
      found = fh s.next_pid (omega arith)
          ∙ ap (λ b. pick b (some (child_process s w l)) none) (eqb_self s.next_pid);
      above = λ i h. fh i (omega (arith, h)) ∙ ap (λ b. pick b (some (child_process s w l)) none)
          (eqb_no s.next_pid i (λ e. absurd (omega (arith, e, h))));
      once = unique_replace (s.processes ++ ms) w.pid gw refl
          (unique_append s.processes ms s.next_pid al.once (refl, tt) hi lo);
      disciplined = record { place = (okl, (tt, wi, refl)); functions = al.disciplined.functions; jobs = refl };
      table = w.stdin ∷ suc (length s.handles) ∷ [];
      simulates = record {
        like = record {
          control = l_list;
          frames = l_nil;
          stdin = ml.like.stdin;
          stdout = ml.like.stdout;
          variables = ml.like.variables;
          functions = ml.like.functions;
          arguments = ml.like.arguments;
          status = ml.like.status;
          jobs = ml.like.jobs;
        };
        agrees = ml.agrees;
      };
      in0 = keep 0 host_input al.in0;
      out0 = bo;
      input = al.input;
      fresh = λ i h. al.fresh i (omega (arith, h));
      not_exited = al.fresh s.next_pid (omega arith);
      exists = omega arith;
      sink_low = al.exists;
      sink_alive = (
        gw,
        fr1,
        (length s.handles, [], q, x, z, refl, bf),
        ([], nth_new s.pipes []),
      );
    }

    lvl : Capturing t (new_capture r k b1 s y w al.table q x z)
    lvl = let lk = al.simulates in record {
      bytes = [];
      found = fr1;
      simulates = record {
        like = record {
          control = l_status;
          frames = lk.like.frames;
          stdin = lk.like.stdin;
          stdout = lk.like.stdout;
          variables = lk.like.variables;
          functions = lk.like.functions;
          arguments = lk.like.arguments;
          status = lk.like.status;
          jobs = lk.like.jobs;
        };
        agrees = record {
          lengths = lk.agrees.lengths;
          within = λ a i e. omega (
            arith,
            lk.agrees.within a i e,
            length_two s.handles (pipe_read (length s.pipes)) (pipe_write (length s.pipes)),
          );
          once = lk.agrees.once;
          alike = λ a i e. subst (λ o. Alike host_input (sink_handle k) o (nth y.system.handles a)) (sym (old i (lk.agrees.within a i e)))
              (lk.agrees.alike a i e);
          files = refl;
        };
      };
      disciplined = wa;
      functions = al.disciplined.functions;
      jobs = al.disciplined.jobs;
      handle_open = bf;
      stdout_open = keep b1 (sink_handle k) al.out0;
      received_is = received_kept k s t r al.sink_low
          (λ i h. fl i (omega (arith, h, al.exists)) (λ e. absurd (omega (arith, e, h)))) refl
          (λ a b e. let d = sink_pipe k s a b e al.sink_alive in oldp a (nth_lt s.pipes a d.0 d.1));
      sink_alive = sink_alive_after k r s t al.sink_low (λ i h. fl i (omega (arith, h, al.exists)) (λ e. absurd (omega (arith, e, h))))
          (λ i a e. keep i (pipe_read a) e) (λ a b e. let d = sink_pipe k s a b e al.sink_alive in (
            d.0,
            oldp a (nth_lt s.pipes a d.0 d.1)
                ∙ d.1,
          )) al.sink_alive;
      not_exited = al.not_exited;
    }

-- the child has exited; what it has printed is still to be read
pub record Drain (s : System) (v : Capture) (vs : List Capture) (total : List ℕ) : Type 0 where
  pub capturing : Capturing s v
  pub received_is : received (on_pipe v.pipe v.pid) s ≡ total
  pub child_sink : SinkAlive (on_pipe v.pipe v.pid) s
  pub above : (q : ℕ) → v.pid < q → find_process s.processes q ≡ none
  pub once : Unique s.processes
  pub in0 : nth s.handles 0 ≡ some host_input
  pub input : s.input ≡ []
  pub fresh : (q : ℕ) → s.next_pid ≤ q → exit_status s.exited q ≡ none
  pub exists : v.pid < s.next_pid
  pub sink_low : Below v.sink v.pid
  pub disjoint : AllDisjoint v.table s vs
  pub stack : Stack s v.pid v.sink vs

-- all is read: the process goes on with it, and with the files as they are
pub drain_end : (s : System) (v : Capture) (vs : List Capture) (total : List ℕ) (dr : Drain s v vs total) → nth s.pipes v.pipe ≡ some []
    → (a2 : Active v.pid v.sink v.stdout_handle (read_all s v dr.capturing.bytes)
    (resume_captured v.level.local s.files v.level.quoted v.level.expansion v.level.purpose total))
    × Stack (read_all s v dr.capturing.bytes) v.pid v.sink vs × AllDisjoint a2.table (read_all s v dr.capturing.bytes) vs
    × (received v.sink (read_all s v dr.capturing.bytes) ≡ v.level.base)
drain_end s v vs total dr pc = subst R tot (
  a1,
  stack_keep s t [] vs v.pid v.sink (omega arith) (λ i h f. refl)
      (λ i h. fl i (λ e. absurd (omega (arith, e, h)))) (λ i h. refl) (λ i u. refl) (λ i e. refl) (empty_disjoint s vs) dr.stack,
  old_disjoint v.table s t (λ i h. refl) dr.capturing.simulates.agrees.within vs dr.disjoint,
  sn ∙ dr.capturing.received_is,
)
  where
    bs : List ℕ
    bs = dr.capturing.bytes

    w2 : Process
    w2 = with_control v.process (at_words (insert_value v.level.expansion v.level.quoted (trim bs)) v.level.purpose) v.process.frames

    t : System
    t = read_all s v bs

    wp : v.process.pid ≡ v.pid
    wp = found_pid s.processes v.pid (capturing_process v bs) dr.capturing.found

    fl : (i : ℕ) → (i ≡ v.pid → ⊥) → find_process t.processes i ≡ find_process s.processes i
    fl i n = other_there s.processes v.pid i w2 n wp

    sn : received v.sink t ≡ received v.sink s
    sn = received_kept v.sink s t v.pid dr.sink_low (λ i h. fl i (λ e. absurd (omega (arith, e, h)))) refl (λ a b e. refl)

    tot : bs ≡ total
    tot = sym (app_nil bs) ∙ sym (λ i. captured_by (dr.capturing.found i) ++ pipe_bytes (pc i)) ∙ dr.received_is

    lk : Simulates host_input (sink_handle v.sink) v.table t w2 (resume_captured v.level.local s.files v.level.quoted v.level.expansion v.level.purpose bs)
    lk = let k = dr.capturing.simulates in record {
      like = record {
        control = l_words;
        frames = k.like.frames;
        stdin = k.like.stdin;
        stdout = k.like.stdout;
        variables = k.like.variables;
        functions = k.like.functions;
        arguments = k.like.arguments;
        status = k.like.status;
        jobs = k.like.jobs;
      };
      agrees = record {
        lengths = k.agrees.lengths;
        within = k.agrees.within;
        once = k.agrees.once;
        alike = k.agrees.alike;
        files = refl;
      };
    }

    a1 : Active v.pid v.sink v.stdout_handle t (resume_captured v.level.local s.files v.level.quoted v.level.expansion v.level.purpose bs)
    a1 = record {
      process = w2;
      found = found_replace s.processes v.pid (capturing_process v bs) w2 dr.capturing.found wp;
      above = λ q h. fl q (λ e. absurd (omega (arith, e, h))) ∙ dr.above q h;
      once = unique_replace s.processes v.pid w2 wp dr.once;
      disciplined = record {
        place = captured_at 0 v.stdout_handle v.level.expansion v.level.purpose v.level.quoted (trim bs)
            v.process.frames v.process.stdin v.process.stdout dr.capturing.disciplined;
        functions = dr.capturing.functions;
        jobs = dr.capturing.jobs;
      };
      table = v.table;
      simulates = lk;
      in0 = dr.in0;
      out0 = dr.capturing.stdout_open;
      input = dr.input;
      fresh = dr.fresh;
      not_exited = dr.capturing.not_exited;
      exists = dr.exists;
      sink_low = dr.sink_low;
      sink_alive = sink_alive_after v.sink v.pid s t dr.sink_low (λ i h. fl i (λ e. absurd (omega (arith, e, h)))) (λ i a e. e)
          (λ a b e. sink_pipe v.sink s a b e dr.capturing.sink_alive) dr.capturing.sink_alive;
    }

    R : List ℕ → Type 0
    R a = (a2 : Active v.pid v.sink v.stdout_handle (read_all s v dr.capturing.bytes)
        (resume_captured v.level.local s.files v.level.quoted v.level.expansion v.level.purpose a))
        × Stack (read_all s v dr.capturing.bytes) v.pid v.sink vs × AllDisjoint a2.table (read_all s v dr.capturing.bytes) vs
        × (received v.sink (read_all s v dr.capturing.bytes) ≡ v.level.base)

pub capture_before : (s : System) (vs : List Capture) (r : ℕ) (k : Sink) (q : ℕ) → Stack s r k vs → IsCapture q vs → q < r
capture_before s [] r k q st m = absurd m
capture_before s (v ∷ vs) r k q st (inl m) = omega (arith, m, st.1)
capture_before s (v ∷ vs) r k q st (inr m) = omega (arith, capture_before s vs v.pid v.sink q st.6 m, st.1)

-- the root exits: the process below it has still to read
pub exit_drains : (r : ℕ) (k : Sink) (b1 : ℕ) (s t : System) (y : Local) (al : Active r k b1 s y) (v : Capture) (vs : List Capture)
    → Stack s r k (v ∷ vs) → AllDisjoint al.table s (v ∷ vs) → ((q : ℕ) (w : Process) → find_process s.processes q ≡ some w → q < r
    → IsCapture q (v ∷ vs)) → Over r k s y t → Untouched r k al.table s t → Drain t v vs (received k s)
exit_drains r k b1 s t y al v vs st aa kn ov o1 = record {
  capturing = st2.4;
  received_is = subst (λ z. received z t ≡ received k s) st.0 ov.5;
  child_sink = subst (λ z. SinkAlive z t) st.0 ov.6;
  above = λ q h. ab q h (equal_or_not q r) (ltb q r) refl;
  once = ov.7;
  in0 = o1.others 0 (nth_lt s.handles 0 host_input al.in0) (λ a q. subst Fixed (sym al.in0) tt) ∙ al.in0;
  input = o1.input ∙ al.input;
  fresh = λ q h. o1.statuses q (λ e. absurd (omega (arith, e, h, o1.next1, al.exists))) ∙ al.fresh q (omega (arith, h, o1.next1));
  exists = omega (arith, st.1, al.exists, o1.next1);
  sink_low = st.3;
  disjoint = st2.5;
  stack = st2.6;
}
  where
    st2 : Stack t r k (v ∷ vs)
    st2 = stack_keep s t al.table (v ∷ vs) r k o1.longer o1.others (λ q l. o1.finds q (λ e. absurd (omega (arith, e, l))))
        (λ q l. o1.statuses q (λ e. absurd (omega (arith, e, l)))) (λ q u. o1.pipes q (before_sink_not k q u)) o1.paper aa st

    gap : (q : ℕ) → v.pid < q → q < r → (o : Option Process) → find_process s.processes q ≡ o → find_process s.processes q ≡ none
    gap q h l none e = e
    gap q h l (some w) e = absurd (no (kn q w e l))
      where
        no : IsCapture q (v ∷ vs) → ⊥
        no (inl m) = absurd (omega (arith, m, h))
        no (inr m) = absurd (omega (arith, capture_before s vs v.pid v.sink q st.6 m, h))

    ab : (q : ℕ) → v.pid < q → (q ≡ r) ⊎ (q ≡ r → ⊥) → (z : Bool) → ltb q r ≡ z → find_process t.processes q ≡ none
    ab q h (inl e) z f = ap (λ i. find_process t.processes i) e ∙ ov.3
    ab q h (inr e) true f = o1.finds q e ∙ gap q h (ltb-true q r f) (find_process s.processes q) refl
    ab q h (inr e) false f = o1.finds q e ∙ al.above q (lt q r e (ltb-false q r f))
      where
        lt : (a b : ℕ) → (a ≡ b → ⊥) → b ≤ a → b < a
        lt a b n l = by2 (ltb b a) refl
          where
            by2 : (z : Bool) → ltb b a ≡ z → b < a
            by2 true p = ltb-true b a p
            by2 false p = absurd (n (omega (arith, ltb-false b a p)))

-- those below go on capturing
pub drain_keep : (s t : System) (v : Capture) (vs : List Capture) (total : List ℕ) → Drain s v vs total → SinkBefore v.sink v.pipe
    → ReadStep s t v.pid v.sink vs → Drain t v vs total
drain_keep s t v vs total dr lp rr = record {
  capturing = capturing_keep s t v [] dr.capturing.bytes dr.capturing
      (omega (arith, ap length rr.reads.handles)) (λ i l f. op i) (λ a b i x y. absurd (no_some x)) (fn
      ∙ dr.capturing.found) (ap (λ g. exit_status g v.pid) rr.reads.exited) rr.received_is rr.sink_alive;
  received_is = received_same (on_pipe v.pipe v.pid) s t ss ∙ dr.received_is;
  child_sink = sink_alive_same (on_pipe v.pipe v.pid) s t ss (λ i p f. op i ∙ f) dr.child_sink;
  above = λ q h. rr.reads.finds q (λ z. absurd (omega (arith, z, rr.lt, h))) ∙ dr.above q h;
  once = rr.reads.once dr.once;
  in0 = op 0 ∙ dr.in0;
  input = rr.reads.input ∙ dr.input;
  fresh = λ q h. ap (λ z. exit_status z q) rr.reads.exited
      ∙ dr.fresh q (omega (arith, h, rr.reads.next1));
  exists = omega (arith, dr.exists, rr.reads.next1);
  sink_low = dr.sink_low;
  disjoint = old_disjoint v.table s t (λ i h. op i) dr.capturing.simulates.agrees.within vs dr.disjoint;
  stack = rr.stack;
}
  where
    op : (i : ℕ) → nth t.handles i ≡ nth s.handles i
    op i = ap (λ os. nth os i) rr.reads.handles

    fn : find_process t.processes v.pid ≡ find_process s.processes v.pid
    fn = rr.reads.finds v.pid (λ z. absurd (omega (arith, z, rr.lt)))

    lt1 : (z : Sink) → SinkBefore z v.pipe → UpToSink z rr.pipe → rr.pipe < v.pipe
    lt1 on_paper x y = absurd y
    lt1 (on_pipe p g) x y = omega (arith, x, y)

    ss : SameSink (on_pipe v.pipe v.pid) s t
    ss = (fn, rr.reads.pipes v.pipe (λ z. absurd (omega (arith, z, lt1 v.sink lp rr.up_to))))

pub drain_read : (s : System) (v : Capture) (vs : List Capture) (total : List ℕ) (dr : Drain s v vs total) → SinkBefore v.sink v.pipe
    → (b : ℕ) (ds : List ℕ) → nth s.pipes v.pipe ≡ some (b ∷ ds) → Drain (read_more s v dr.capturing.bytes b ds) v vs total
drain_read s v vs total dr lp b ds pc = by (read_one s v vs (suc v.pid) (on_pipe v.pipe v.pid) (
  refl,
  omega arith,
  lp,
  dr.sink_low,
  dr.capturing,
  dr.disjoint,
  dr.stack,
) b ds pc)
  where
    by : ReadStep s (read_more s v dr.capturing.bytes b ds) (suc v.pid) (on_pipe v.pipe v.pid) (v ∷ vs) → Drain (read_more s v dr.capturing.bytes b ds) v vs total
    by rr = record {
      capturing = rr.stack.4;
      received_is = rr.received_is ∙ dr.received_is;
      child_sink = rr.sink_alive;
      above = λ q h. rr.reads.finds q (λ z. absurd (omega (arith, z, rr.lt, h))) ∙ dr.above q h;
      once = rr.reads.once dr.once;
      in0 = dr.in0;
      input = dr.input;
      fresh = dr.fresh;
      exists = dr.exists;
      sink_low = dr.sink_low;
      disjoint = rr.stack.5;
      stack = rr.stack.6;
    }

-- a move of a member leaves the stack as it is
pub outside_stack : (g : Setup) (s t : System) (D E : ℕ → Member) (vs : List Capture) (sd : Outside g s t D E) → Stack s g.root_pid g.sink vs
    → AllDisjoint (D sd.j).table s vs → ((q : ℕ) → BeforeSink g.sink q → (k : ℕ) → q ≡ g.pipe_of k → ⊥) → Stack t g.root_pid g.sink vs
outside_stack g s t D E vs sd st aa un = stack_keep s t (D sd.j).table vs g.root_pid g.sink sd.trans.longer sd.trans.others
    (λ q l. sd.trans.finds q (λ e. absurd (omega (arith, e, l, g.root_before))))
    (λ q l. sd.trans.statuses q (λ e. absurd (omega (arith, e, l, g.root_before)))) (λ q u. sd.pipes q (un q u) (before_sink_not g.sink q u))
    sd.paper aa st
