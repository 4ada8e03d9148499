-- A command's name, and what it does.
use Rattle.std.proofs.Common.{◌≡◌, ℕ, Bool, true, false, List, [], ◌∷◌, ◌++◌, codes, sym, refl, ap, ◌∙◌}
use mathlib.Core.Option.{some}
use Rattle.syntax.specs.Base.{pick, opt, same, Name}
use Rattle.syntax.specs.Tree.{no_redirects}
use Rattle.meaning.specs.System.{QuotedByte, b_print, b_done, b_yes, b_head, b_wc, b_grep, then_invoke, at_list, at_redirects, at_unwind, at_wait, break, continue, return, exit, Frame, f_arguments, Process, System, function_body}
use Rattle.meaning.specs.Words.{bytes_of, as_line, join_words, first_or, tail_of, test_status}
use Rattle.meaning.specs.Step.{name_echo, name_cat, name_head, name_wc, name_grep, name_seq, name_rm, name_yes, name_true, name_false, name_test, name_read, name_exit, name_return, name_break, name_continue, name_shift, name_wait, StepResult, step, goes_to, completes, start_builtin, start_cat, start_seq, start_counted, start_unwind, start_read, remove_files, run_builtin, with_arguments, with_jobs}
use Rattle.machine.specs.declared.names.BuiltinName.{BuiltinName}
use Rattle.machine.specs.declared.names.BuiltinName.TheVariants.{Echo, Cat, Head, Wc, Grep, Seq, Rm, Yes, True, False, Test, Read, Exit, Return, Break, Continue, Shift, Wait, Other}
use Rattle.words.proofs.Texts.{low, byte_is}
use Rattle.words.specs.Encoding.{encoded, marked, Small, named}
use Rattle.machine.specs.Commands.{name_of, name_at}
use Rattle.machine.specs.Represent.{Rest, process}

named_same : (x : List QuotedByte) (ds : List (List QuotedByte)) (nm : List ℕ) → Small x → named (encoded x ++ marked ds) nm ≡ same (bytes_of x) nm
named_same [] [] [] s = refl
named_same [] (d ∷ ds) [] s = refl
named_same [] [] (b ∷ nm) s = refl
named_same [] (d ∷ ds) (b ∷ nm) s = refl
named_same (c ∷ x) ds [] s = low c.byte c.quoted s.0
named_same (c ∷ x) ds (b ∷ nm) s = rw (low c.byte c.quoted s.0, byte_is c.byte c.quoted s.0, named_same x ds nm s.1)

pub name_is : (x : List QuotedByte) (ds : List (List QuotedByte)) → Small x → name_of (encoded x ++ marked ds) ≡ name_at (bytes_of x)
name_is x ds s = rw (named_same x ds name_echo s, named_same x ds name_cat s, named_same x ds name_head s, named_same x ds name_wc s, named_same x ds name_grep s, named_same x ds name_seq s, named_same x ds name_rm s, named_same x ds name_yes s, named_same x ds name_true s, named_same x ds name_false s, named_same x ds name_test s, named_same x ds name_read s, named_same x ds name_exit s, named_same x ds name_return s, named_same x ds name_break s, named_same x ds name_continue s, named_same x ds name_shift s, named_same x ds name_wait s)

-- what each name does
abbrev pub runs : BuiltinName → System → Process → List (List ℕ) → StepResult
runs Echo s w as₁ = start_builtin s w (b_print (as_line (join_words as₁)) (b_done 0))
runs Cat s w as₁ = start_cat s w as₁
runs Head s w as₁ = start_counted s w as₁ 10 b_head
runs Wc s w as₁ = start_builtin s w (b_wc 0 0)
runs Grep s w as₁ = start_builtin s w (b_grep (first_or [] as₁) [] false)
runs Seq s w as₁ = start_seq s w as₁
runs Rm s w as₁ = completes (remove_files s as₁) w 0
runs Yes s w as₁ = start_builtin s w (b_yes (as_line (first_or (codes "y") as₁)))
runs True s w as₁ = completes s w 0
runs False s w as₁ = completes s w 1
runs Test s w as₁ = completes s w (test_status s as₁)
runs Read s w as₁ = start_read s w (first_or (codes "x") as₁)
runs Exit s w as₁ = start_unwind s w exit as₁
runs Return s w as₁ = start_unwind s w return as₁
runs Break s w as₁ = goes_to s w (at_unwind break 0) w.frames
runs Continue s w as₁ = goes_to s w (at_unwind continue 0) w.frames
runs Shift s w as₁ = completes s (with_arguments w (tail_of w.arguments)) 0
runs Wait s w as₁ = goes_to s (with_jobs w []) (at_wait w.jobs) w.frames
runs Other s w as₁ = completes s w 127

picks : {A : Type 0} (f : BuiltinName → A) (b1 b2 b3 b4 b5 b6 b7 b8 b9 b10 b11 b12 b13 b14 b15 b16 b17 b18 : Bool) → f (pick b1 Echo (pick b2 Cat (pick b3 Head (pick b4 Wc (pick b5 Grep (pick b6 Seq (pick b7 Rm (pick b8 Yes (pick b9 True (pick b10 False (pick b11 Test (pick b12 Read (pick b13 Exit (pick b14 Return (pick b15 Break (pick b16 Continue (pick b17 Shift (pick b18 Wait (Other))))))))))))))))))) ≡ pick b1 (f Echo) (pick b2 (f Cat) (pick b3 (f Head) (pick b4 (f Wc) (pick b5 (f Grep) (pick b6 (f Seq) (pick b7 (f Rm) (pick b8 (f Yes) (pick b9 (f True) (pick b10 (f False) (pick b11 (f Test) (pick b12 (f Read) (pick b13 (f Exit) (pick b14 (f Return) (pick b15 (f Break) (pick b16 (f Continue) (pick b17 (f Shift) (pick b18 (f Wait) ((f Other)))))))))))))))))))
picks f true b2 b3 b4 b5 b6 b7 b8 b9 b10 b11 b12 b13 b14 b15 b16 b17 b18 = refl
picks f false true b3 b4 b5 b6 b7 b8 b9 b10 b11 b12 b13 b14 b15 b16 b17 b18 = refl
picks f false false true b4 b5 b6 b7 b8 b9 b10 b11 b12 b13 b14 b15 b16 b17 b18 = refl
picks f false false false true b5 b6 b7 b8 b9 b10 b11 b12 b13 b14 b15 b16 b17 b18 = refl
picks f false false false false true b6 b7 b8 b9 b10 b11 b12 b13 b14 b15 b16 b17 b18 = refl
picks f false false false false false true b7 b8 b9 b10 b11 b12 b13 b14 b15 b16 b17 b18 = refl
picks f false false false false false false true b8 b9 b10 b11 b12 b13 b14 b15 b16 b17 b18 = refl
picks f false false false false false false false true b9 b10 b11 b12 b13 b14 b15 b16 b17 b18 = refl
picks f false false false false false false false false true b10 b11 b12 b13 b14 b15 b16 b17 b18 = refl
picks f false false false false false false false false false true b11 b12 b13 b14 b15 b16 b17 b18 = refl
picks f false false false false false false false false false false true b12 b13 b14 b15 b16 b17 b18 = refl
picks f false false false false false false false false false false false true b13 b14 b15 b16 b17 b18 = refl
picks f false false false false false false false false false false false false true b14 b15 b16 b17 b18 = refl
picks f false false false false false false false false false false false false false true b15 b16 b17 b18 = refl
picks f false false false false false false false false false false false false false false true b16 b17 b18 = refl
picks f false false false false false false false false false false false false false false false true b17 b18 = refl
picks f false false false false false false false false false false false false false false false false true b18 = refl
picks f false false false false false false false false false false false false false false false false false true = refl
picks f false false false false false false false false false false false false false false false false false false = refl

run_is : (s : System) (w : Process) (x : Name) (as₁ : List (List ℕ)) → run_builtin s w x as₁ ≡ runs (name_at x) s w as₁
run_is s w x as₁ = sym (picks (λ n. runs n s w as₁) (same x name_echo) (same x name_cat) (same x name_head) (same x name_wc) (same x name_grep) (same x name_seq) (same x name_rm) (same x name_yes) (same x name_true) (same x name_false) (same x name_test) (same x name_read) (same x name_exit) (same x name_return) (same x name_break) (same x name_continue) (same x name_shift) (same x name_wait))

-- a command by its name, where there are no functions
pub invoked : (r : Rest) (k : List Frame) (i o n : ℕ) (x : Name) (as₁ : List (List ℕ)) (N : BuiltinName) → r.functions ≡ [] → name_at x ≡ N → (s : System) → step s (process r (at_redirects no_redirects (then_invoke (x ∷ as₁))) k i o n) ≡ some (runs N s (process r (at_redirects no_redirects (then_invoke (x ∷ as₁))) k i o n) as₁)
invoked r k i o n x as₁ N f e s =
    let w = process r (at_redirects no_redirects (then_invoke (x ∷ as₁))) k i o n in
    ap (λ fs. some (opt (function_body fs x) (run_builtin s w x as₁) (λ l. goes_to s (with_arguments w as₁) (at_list l) (f_arguments w.arguments ∷ w.frames)))) f ∙ ap some (run_is s w x as₁ ∙ ap (λ N. runs N s w as₁) e)
