-- One token after the other: where nothing has begun, the tokens of a text are one token and those of what is behind it.
use Rattle.std.proofs.Common.{◌≡◌, ℕ, ◌+◌, ◌≤◌, Bool, true, false, not, ◌&&◌, ◌||◌, eqb, List, [], ◌∷◌, ◌++◌, length, refl, ◌∙◌, arith}
use Rattle.syntax.specs.Base.{pick, letter, digit}
use Rattle.grammar.specs.Tokens.{start, Token, token, Pending, nothing, in_word, in_quote, in_text, after_dollar, in_name, in_sign, in_comment, Lexer, lexer, scan, Scan, space, doubles, ends_word, scan_fresh, flush, is_sign, flush_and_scan, with_pending, scan_byte, tokens}
use Rattle.grammar.specs.Grammar.{sign}
use Rattle.grammar.proofs.Fit.{by_bool}
use Rattle.std.proofs.lemmas.Bool.{or_parts}
use Rattle.std.proofs.lemmas.List.{append-nil, append_assoc, length-append}

abbrev pub run_of : (ℕ → Bool) → List ℕ → List ℕ
run_of f [] = []
run_of f (c ∷ cs) = pick (f c) [] (c ∷ run_of f cs)

abbrev pub after : (ℕ → Bool) → List ℕ → List ℕ
after f [] = []
after f (c ∷ cs) = pick (f c) (c ∷ cs) (after f cs)

abbrev rest : Bool → List Bool → Bool → Lexer
rest d o g = lexer d o g nothing

abbrev goes : Scan → List ℕ → List Token
goes t cs = t.out ++ tokens t.state cs

-- a run of bytes
abbrev ends_text : ℕ → Bool
ends_text c = eqb c 34 || eqb c 36

abbrev no_name : ℕ → Bool
no_name c = not (letter c || digit c)

pub word_scan : (o : List Bool) (g : Bool) (w t : List ℕ) → tokens (lexer false o g (in_word w)) t ≡ token g 0 (w ++ run_of ends_word t) ∷ tokens (rest false o true) (after ends_word t)
word_scan o g w [] = rw (append-nil w)
word_scan o g w (c ∷ cs) = by_bool (λ b. goes (pick b (flush_and_scan (lexer false o g (in_word w)) c) (with_pending (lexer false o g (in_word w)) (in_word (w ++ (c ∷ []))))) cs ≡ token g 0 (w ++ pick b [] (c ∷ run_of ends_word cs)) ∷ tokens (rest false o true) (pick b (c ∷ cs) (after ends_word cs))) (ends_word c) (λ e. rw (append-nil w)) (λ e. word_scan o g (w ++ (c ∷ [])) cs ∙ rw (append_assoc w (c ∷ []) (run_of ends_word cs)))

pub text_scan : (o : List Bool) (g : Bool) (w t : List ℕ) → tokens (lexer true o g (in_text w)) t ≡ token g 1 (w ++ run_of ends_text t) ∷ tokens (rest true o true) (after ends_text t)
text_scan o g w [] = rw (append-nil w)
text_scan o g w (c ∷ cs) = by_bool (λ b. goes (pick b (flush_and_scan (lexer true o g (in_text w)) c) (with_pending (lexer true o g (in_text w)) (in_text (w ++ (c ∷ []))))) cs ≡ token g 1 (w ++ pick b [] (c ∷ run_of ends_text cs)) ∷ tokens (rest true o true) (pick b (c ∷ cs) (after ends_text cs))) (ends_text c) (λ e. rw (append-nil w)) (λ e. text_scan o g (w ++ (c ∷ [])) cs ∙ rw (append_assoc w (c ∷ []) (run_of ends_text cs)))

pub name_scan : (d : Bool) (o : List Bool) (g : Bool) (w t : List ℕ) → tokens (lexer d o g (in_name w)) t ≡ token g (pick d 3 2) (w ++ run_of no_name t) ∷ tokens (rest d o true) (after no_name t)
name_scan d o g w [] = rw (append-nil w)
name_scan d o g w (c ∷ cs) = by_bool (λ b. goes (pick b (with_pending (lexer d o g (in_name w)) (in_name (w ++ (c ∷ [])))) (flush_and_scan (lexer d o g (in_name w)) c)) cs ≡ token g (pick d 3 2) (w ++ pick (not b) [] (c ∷ run_of no_name cs)) ∷ tokens (rest d o true) (pick (not b) (c ∷ cs) (after no_name cs))) (letter c || digit c) (λ e. name_scan d o g (w ++ (c ∷ [])) cs ∙ rw (append_assoc w (c ∷ []) (run_of no_name cs))) (λ e. rw (append-nil w))

pub note_scan : (o : List Bool) (t : List ℕ) → tokens (lexer false o false in_comment) t ≡ tokens (rest false o false) (after (λ c. eqb c 10) t)
note_scan o [] = refl
note_scan o (c ∷ cs) = by_bool (λ b. goes (pick b (scan_fresh false o false c) (scan [] (lexer false o false in_comment))) cs ≡ tokens (rest false o false) (pick b (c ∷ cs) (after (λ x. eqb x 10) cs))) (eqb c 10) (λ e. refl) (λ e. note_scan o cs)

-- behind an opening ': to the next one, or no token that is in any text
abbrev pub quoted : List Bool → Bool → List ℕ → List ℕ → List Token
quoted o g w [] = sign (39 ∷ []) ∷ []
quoted o g w (c ∷ cs) = token g 1 w ∷ tokens (rest false o true) cs

pub quote_scan : (o : List Bool) (g : Bool) (w t : List ℕ) → tokens (lexer false o g (in_quote w)) t ≡ quoted o g (w ++ run_of (λ c. eqb c 39) t) (after (λ c. eqb c 39) t)
quote_scan o g w [] = refl
quote_scan o g w (c ∷ cs) = by_bool (λ b. goes (pick b (scan (token g 1 w ∷ []) (rest false o true)) (with_pending (lexer false o g (in_quote w)) (in_quote (w ++ (c ∷ []))))) cs ≡ quoted o g (w ++ pick b [] (c ∷ run_of (λ x. eqb x 39) cs)) (pick b (c ∷ cs) (after (λ x. eqb x 39) cs))) (eqb c 39) (λ e. rw (append-nil w)) (λ e. quote_scan o g (w ++ (c ∷ [])) cs ∙ rw (append_assoc w (c ∷ []) (run_of (λ x. eqb x 39) cs)))

abbrev pub signed : List Bool → ℕ → List ℕ → List Token
signed o d [] = sign (d ∷ []) ∷ []
signed o d (c ∷ cs) = pick (eqb c d) (sign (d ∷ d ∷ []) ∷ tokens (rest false o false) cs) (sign (d ∷ []) ∷ tokens (rest false o false) (c ∷ cs))

pub sign_scan : (o : List Bool) (g : Bool) (d : ℕ) (t : List ℕ) → tokens (lexer false o g (in_sign d)) t ≡ signed o d t
sign_scan o g d [] = refl
sign_scan o g d (c ∷ cs) = by_bool (λ b. goes (pick b (scan (sign (d ∷ d ∷ []) ∷ []) (rest false o false)) (flush_and_scan (lexer false o g (in_sign d)) c)) cs ≡ pick b (sign (d ∷ d ∷ []) ∷ tokens (rest false o false) cs) (sign (d ∷ []) ∷ tokens (rest false o false) (c ∷ cs))) (eqb c d) (λ e. refl) (λ e. refl)

-- at most one token for each byte, and one
abbrev pend : Pending → ℕ
pend nothing = 0
pend (in_word w) = 1
pend (in_quote w) = 1
pend (in_text w) = 1
pend after_dollar = 1
pend (in_name w) = 1
pend (in_sign c) = 1
pend in_comment = 0

abbrev Pays : ℕ → Scan → Type 0
Pays n t = length t.out + pend t.state.pending ≤ n

pick_pays : (n : ℕ) (b : Bool) (x y : Scan) → Pays n x → Pays n y → Pays n (pick b x y)
pick_pays n true x y h k = h
pick_pays n false x y h k = k

opens_pays : (d : Bool) (o : List Bool) (g : Bool) (c : ℕ) → Pays 1 (scan_fresh d o g c)
opens_pays true o g c = pick_pays 1 (eqb c 34) _ _ (omega arith) (pick_pays 1 (eqb c 36) _ _ (omega arith) (omega arith))
opens_pays false o g c = pick_pays 1 (space c) _ _ (omega arith) (pick_pays 1 (eqb c 10) _ _ (omega arith) (pick_pays 1 (eqb c 35 && not g) _ _ (omega arith) (pick_pays 1 (eqb c 34) _ _ (omega arith) (pick_pays 1 (eqb c 39) _ _ (omega arith) (pick_pays 1 (eqb c 36) _ _ (omega arith) (pick_pays 1 (eqb c 40) _ _ (omega arith) (pick_pays 1 (eqb c 41) _ _ (omega arith) (pick_pays 1 (doubles c) _ _ (omega arith) (omega arith)))))))))

ended_pays : (k : Pending) (d g : Bool) → length (flush k d g) ≤ pend k
ended_pays nothing d g = omega arith
ended_pays (in_word w) d g = omega arith
ended_pays (in_quote w) d g = omega arith
ended_pays (in_text w) d g = omega arith
ended_pays after_dollar d g = omega arith
ended_pays (in_name w) d g = omega arith
ended_pays (in_sign c) d g = omega arith
ended_pays in_comment d g = omega arith

and_open_pays : (d : Bool) (o : List Bool) (g : Bool) (k : Pending) (c : ℕ) → Pays (pend k + 1) (flush_and_scan (lexer d o g k) c)
and_open_pays d o g k c = omega (arith, length-append (flush k d g) (scan_fresh d o (not (is_sign k)) c).out, ended_pays k d g, opens_pays d o (not (is_sign k)) c)

reads_pays : (d : Bool) (o : List Bool) (g : Bool) (k : Pending) (c : ℕ) → Pays (pend k + 1) (scan_byte (lexer d o g k) k c)
reads_pays d o g nothing c = opens_pays d o g c
reads_pays d o g (in_word w) c = pick_pays 2 (ends_word c) _ _ (and_open_pays d o g (in_word w) c) (omega arith)
reads_pays d o g (in_quote w) c = pick_pays 2 (eqb c 39) _ _ (omega arith) (omega arith)
reads_pays d o g (in_text w) c = pick_pays 2 (eqb c 34 || eqb c 36) _ _ (and_open_pays d o g (in_text w) c) (omega arith)
reads_pays d o g after_dollar c = pick_pays 2 (eqb c 40) _ _ (omega arith) (pick_pays 2 (letter c) _ _ (omega arith) (pick_pays 2 (digit c || (eqb c 35 || eqb c 63)) _ _ (omega arith) (and_open_pays d o g after_dollar c)))
reads_pays d o g (in_name w) c = pick_pays 2 (letter c || digit c) _ _ (omega arith) (and_open_pays d o g (in_name w) c)
reads_pays d o g (in_sign x) c = pick_pays 2 (eqb c x) _ _ (omega arith) (and_open_pays d o g (in_sign x) c)
reads_pays d o g in_comment c = pick_pays 1 (eqb c 10) _ _ (opens_pays false o false c) (omega arith)

last_pays : (d : Bool) → length (pick d (token false 4 (34 ∷ []) ∷ []) []) ≤ 1
last_pays true = omega arith
last_pays false = omega arith

tokens_pay : (l : Lexer) (t : List ℕ) → length (tokens l t) ≤ length t + (pend l.pending + 1)
tokens_pay l [] = omega (arith, length-append (flush l.pending l.quoted l.glue) (pick l.quoted (token false 4 (34 ∷ []) ∷ []) []), ended_pays l.pending l.quoted l.glue, last_pays l.quoted)
tokens_pay l (c ∷ cs) =
    let t = scan_byte l l.pending c in
    omega (arith, length-append t.out (tokens t.state cs), reads_pays l.quoted l.outer l.glue l.pending c, tokens_pay t.state cs)

pub tokens_few : (t : List ℕ) → length (tokens start t) ≤ length t + 1
tokens_few t = omega (arith, tokens_pay start t)

-- where nothing has begun, by the first byte
pub no_bytes : (o : List Bool) (g : Bool) → tokens (rest false o g) [] ≡ []
no_bytes o g = refl

pub at_blank : (o : List Bool) (g : Bool) (c : ℕ) (cs : List ℕ) → space c ≡ true → tokens (rest false o g) (c ∷ cs) ≡ tokens (rest false o false) cs
at_blank o g c cs e = rw e

pub at_line : (o : List Bool) (g : Bool) (cs : List ℕ) → tokens (rest false o g) (10 ∷ cs) ≡ sign (10 ∷ []) ∷ tokens (rest false o false) cs
at_line o g cs = refl

pub at_note : (o : List Bool) (cs : List ℕ) → tokens (rest false o false) (35 ∷ cs) ≡ tokens (rest false o false) (after (λ c. eqb c 10) cs)
at_note o cs = note_scan o cs

pub at_quotes : (o : List Bool) (g : Bool) (cs : List ℕ) → tokens (rest false o g) (34 ∷ cs) ≡ token g 1 [] ∷ tokens (rest true o true) cs
at_quotes o g cs = refl

pub at_unquotes : (o : List Bool) (g : Bool) (cs : List ℕ) → tokens (rest true o g) (34 ∷ cs) ≡ tokens (rest false o true) cs
at_unquotes o g cs = refl

pub at_quote : (o : List Bool) (g : Bool) (cs : List ℕ) → tokens (rest false o g) (39 ∷ cs) ≡ quoted o g (run_of (λ c. eqb c 39) cs) (after (λ c. eqb c 39) cs)
at_quote o g cs = quote_scan o g [] cs

pub at_open : (o : List Bool) (g : Bool) (cs : List ℕ) → tokens (rest false o g) (40 ∷ cs) ≡ sign (40 ∷ []) ∷ tokens (rest false (false ∷ false ∷ o) false) cs
at_open o g cs = refl

pub at_shut1 : (b q : Bool) (o : List Bool) (g : Bool) (cs : List ℕ) → tokens (rest false (b ∷ q ∷ o) g) (41 ∷ cs) ≡ sign (41 ∷ []) ∷ tokens (rest q o b) cs
at_shut1 b q o g cs = refl

pub at_semi : (o : List Bool) (g : Bool) (cs : List ℕ) → tokens (rest false o g) (59 ∷ cs) ≡ signed o 59 cs
at_semi o g cs = sign_scan o g 59 cs

pub at_amp : (o : List Bool) (g : Bool) (cs : List ℕ) → tokens (rest false o g) (38 ∷ cs) ≡ signed o 38 cs
at_amp o g cs = sign_scan o g 38 cs

pub at_word : (o : List Bool) (g : Bool) (c : ℕ) (cs : List ℕ) → ends_word c ≡ false → eqb c 35 && not g ≡ false → tokens (rest false o g) (c ∷ cs) ≡ token g 0 (c ∷ run_of ends_word cs) ∷ tokens (rest false o true) (after ends_word cs)
at_word o g c cs e f =
    let e1 = or_parts (space c) _ e in
    let e2 = or_parts (doubles c) _ e1.1 in
    let e3 = or_parts (eqb c 10) _ e2.1 in
    let e4 = or_parts (eqb c 40) _ e3.1 in
    let e5 = or_parts (eqb c 41) _ e4.1 in
    let e6 = or_parts (eqb c 34) _ e5.1 in
    let e7 = or_parts (eqb c 39) _ e6.1 in
    rw (e1.0, e3.0, f, e6.0, e7.0, e7.1, e4.0, e5.0, e2.0) (word_scan o g (c ∷ []) cs)

pub at_text : (o : List Bool) (g : Bool) (c : ℕ) (cs : List ℕ) → ends_text c ≡ false → tokens (rest true o g) (c ∷ cs) ≡ token g 1 (c ∷ run_of ends_text cs) ∷ tokens (rest true o true) (after ends_text cs)
at_text o g c cs e = let k = or_parts (eqb c 34) _ e in rw (k.0, k.1) (text_scan o g (c ∷ []) cs)

pub at_run : (d : Bool) (o : List Bool) (g : Bool) (cs : List ℕ) → tokens (rest d o g) (36 ∷ 40 ∷ cs) ≡ token g (pick d 6 5) [] ∷ tokens (rest false (true ∷ d ∷ o) false) cs
at_run true o g cs = refl
at_run false o g cs = refl

dollar_is : (d : Bool) (o : List Bool) (g : Bool) (cs : List ℕ) → tokens (rest d o g) (36 ∷ cs) ≡ tokens (lexer d o g after_dollar) cs
dollar_is true o g cs = refl
dollar_is false o g cs = refl

pub at_name : (d : Bool) (o : List Bool) (g : Bool) (c : ℕ) (cs : List ℕ) → eqb c 40 ≡ false → letter c ≡ true → tokens (rest d o g) (36 ∷ c ∷ cs) ≡ token g (pick d 3 2) (c ∷ run_of no_name cs) ∷ tokens (rest d o true) (after no_name cs)
at_name d o g c cs e f = dollar_is d o g (c ∷ cs) ∙ rw (e, f) (name_scan d o g (c ∷ []) cs)

pub at_arg : (d : Bool) (o : List Bool) (g : Bool) (c : ℕ) (cs : List ℕ) → eqb c 40 ≡ false → letter c ≡ false → digit c || (eqb c 35 || eqb c 63) ≡ true → tokens (rest d o g) (36 ∷ c ∷ cs) ≡ token g (pick d 3 2) (c ∷ []) ∷ tokens (rest d o true) cs
at_arg d o g c cs e f h = dollar_is d o g (c ∷ cs) ∙ rw (e, f, h)

pub at_dollar : (d : Bool) (o : List Bool) (g : Bool) (c : ℕ) (cs : List ℕ) → eqb c 40 ≡ false → letter c ≡ false → digit c || (eqb c 35 || eqb c 63) ≡ false → tokens (rest d o g) (36 ∷ c ∷ cs) ≡ token g (pick d 1 0) (36 ∷ []) ∷ tokens (rest d o true) (c ∷ cs)
at_dollar d o g c cs e f h = dollar_is d o g (c ∷ cs) ∙ rw (e, f, h)
