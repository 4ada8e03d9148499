-- From bytes to tokens. Every text has tokens; whether they are a list of commands the grammar says.
use Rattle.std.specs.Prelude.{Bool, true, false, ◌&&◌, ◌||◌, not, List, [], ◌∷◌, ◌++◌, ℕ, eqb}
use Rattle.syntax.specs.Base.{pick, letter, digit}

-- a token: whether it is joined to the one before, with nothing between them; its kind; its bytes.
-- Kinds: 0 bare bytes, 1 bytes from quotes, 2 a parameter behind $, 3 such a parameter in double quotes,
-- 4 a sign, 5 $( , 6 $( in double quotes
pub record Token : Type 0 where
  pub joined : Bool
  pub kind : ℕ
  pub bytes : List ℕ

abbrev pub token : Bool → ℕ → List ℕ → Token
token j k b = record { joined = j; kind = k; bytes = b }

-- what has begun and is not a token yet: nothing; bare bytes; bytes in single quotes; bytes in double quotes;
-- a $; a $ and a name; a sign that may come twice; a comment
pub data Pending : Type 0 where
  nothing : Pending
  in_word : List ℕ → Pending
  in_quote : List ℕ → Pending
  in_text : List ℕ → Pending
  after_dollar : Pending
  in_name : List ℕ → Pending
  in_sign : ℕ → Pending
  in_comment : Pending

-- in double quotes or not; for each bracket that is open two flags, whether it is a $( and whether that stands in
-- double quotes, the innermost first; whether the next token is joined; what has begun
pub record Lexer : Type 0 where
  pub quoted : Bool
  pub outer : List Bool
  pub glue : Bool
  pub pending : Pending

abbrev pub lexer : Bool → List Bool → Bool → Pending → Lexer
lexer d o g c = record { quoted = d; outer = o; glue = g; pending = c }

-- the tokens that a byte completes, and the lexer behind it
pub record Scan : Type 0 where
  pub out : List Token
  pub state : Lexer

abbrev pub scan : List Token → Lexer → Scan
scan o l = record { out = o; state = l }

abbrev pub space : ℕ → Bool
space c = eqb c 32 || eqb c 9

-- ; & | < > may come twice
abbrev pub doubles : ℕ → Bool
doubles c = eqb c 59 || (eqb c 38 || (eqb c 124 || (eqb c 60 || eqb c 62)))

-- blanks, signs, the end of a line, brackets, quotes and $
abbrev pub ends_word : ℕ → Bool
ends_word c = space c || (doubles c || (eqb c 10 || (eqb c 40 || (eqb c 41 || (eqb c 34 || (eqb c 39 || eqb c 36))))))

abbrev pub top_of : List Bool → Bool
top_of [] = false
top_of (b ∷ bs) = b

abbrev pub rest_of : List Bool → List Bool
rest_of [] = []
rest_of (b ∷ bs) = bs

-- a byte where nothing has begun, in double quotes and outside. An opening " is an empty quoted token, so that ""
-- is a word; # begins a comment only where no word has begun; a ) gives back what was before its bracket
abbrev pub scan_fresh : Bool → List Bool → Bool → ℕ → Scan
scan_fresh true o g c =
    pick (eqb c 34) (scan [] (lexer false o true nothing))
    (pick (eqb c 36) (scan [] (lexer true o g after_dollar))
    (scan [] (lexer true o g (in_text (c ∷ [])))))
scan_fresh false o g c =
    pick (space c) (scan [] (lexer false o false nothing))
    (pick (eqb c 10) (scan (token false 4 (10 ∷ []) ∷ []) (lexer false o false nothing))
    (pick (eqb c 35 && not g) (scan [] (lexer false o false in_comment))
    (pick (eqb c 34) (scan (token g 1 [] ∷ []) (lexer true o true nothing))
    (pick (eqb c 39) (scan [] (lexer false o g (in_quote [])))
    (pick (eqb c 36) (scan [] (lexer false o g after_dollar))
    (pick (eqb c 40) (scan (token false 4 (40 ∷ []) ∷ []) (lexer false (false ∷ false ∷ o) false nothing))
    (pick (eqb c 41) (scan (token false 4 (41 ∷ []) ∷ []) (lexer (top_of (rest_of o)) (rest_of (rest_of o)) (top_of o) nothing))
    (pick (doubles c) (scan [] (lexer false o g (in_sign c)))
    (scan [] (lexer false o g (in_word (c ∷ []))))))))))))

-- the token of what had begun and is over now. A $ before anything else is itself; an open ' is a sign of its own,
-- which no list of commands has
abbrev pub flush : Pending → Bool → Bool → List Token
flush nothing d g = []
flush (in_word w) d g = token g 0 w ∷ []
flush (in_quote w) d g = token false 4 (39 ∷ []) ∷ []
flush (in_text w) d g = token g 1 w ∷ []
flush after_dollar d g = token g (pick d 1 0) (36 ∷ []) ∷ []
flush (in_name w) d g = token g (pick d 3 2) w ∷ []
flush (in_sign c) d g = token false 4 (c ∷ []) ∷ []
flush in_comment d g = []

abbrev pub is_sign : Pending → Bool
is_sign nothing = false
is_sign (in_word w) = false
is_sign (in_quote w) = false
is_sign (in_text w) = false
is_sign after_dollar = false
is_sign (in_name w) = false
is_sign (in_sign c) = true
is_sign in_comment = false

-- what had begun is over, and the byte is the first of what follows
abbrev pub flush_and_scan : Lexer → ℕ → Scan
flush_and_scan l c =
    let t = scan_fresh l.quoted l.outer (not (is_sign l.pending)) c in
    scan (flush l.pending l.quoted l.glue ++ t.out) t.state

abbrev pub with_pending : Lexer → Pending → Scan
with_pending l c = scan [] (lexer l.quoted l.outer l.glue c)

-- behind $: a bracket, a name, or one of the digits, # and ?
abbrev pub scan_dollar : Lexer → ℕ → Scan
scan_dollar l c =
    pick (eqb c 40) (scan (token l.glue (pick l.quoted 6 5) [] ∷ []) (lexer false (true ∷ l.quoted ∷ l.outer) false nothing))
    (pick (letter c) (with_pending l (in_name (c ∷ [])))
    (pick (digit c || (eqb c 35 || eqb c 63)) (scan (token l.glue (pick l.quoted 3 2) (c ∷ []) ∷ []) (lexer l.quoted l.outer true nothing))
    (flush_and_scan l c)))

-- one byte
abbrev pub scan_byte : Lexer → Pending → ℕ → Scan
scan_byte l nothing c = scan_fresh l.quoted l.outer l.glue c
scan_byte l (in_word w) c = pick (ends_word c) (flush_and_scan l c) (with_pending l (in_word (w ++ (c ∷ []))))
scan_byte l (in_quote w) c = pick (eqb c 39) (scan (token l.glue 1 w ∷ []) (lexer l.quoted l.outer true nothing)) (with_pending l (in_quote (w ++ (c ∷ []))))
scan_byte l (in_text w) c = pick (eqb c 34 || eqb c 36) (flush_and_scan l c) (with_pending l (in_text (w ++ (c ∷ []))))
scan_byte l after_dollar c = scan_dollar l c
scan_byte l (in_name w) c = pick (letter c || digit c) (with_pending l (in_name (w ++ (c ∷ [])))) (flush_and_scan l c)
scan_byte l (in_sign d) c = pick (eqb c d) (scan (token false 4 (d ∷ d ∷ []) ∷ []) (lexer l.quoted l.outer false nothing)) (flush_and_scan l c)
scan_byte l in_comment c = pick (eqb c 10) (scan_fresh false l.outer false c) (scan [] l)

-- the end of the text: an open " is a sign of its own, which no list of commands has
abbrev pub finish : Lexer → List Token
finish l = flush l.pending l.quoted l.glue ++ pick l.quoted (token false 4 (34 ∷ []) ∷ []) []

abbrev pub tokens : Lexer → List ℕ → List Token
tokens l [] = finish l
tokens l (c ∷ cs) = let t = scan_byte l l.pending c in t.out ++ tokens t.state cs

abbrev pub start : Lexer
start = lexer false [] false nothing
