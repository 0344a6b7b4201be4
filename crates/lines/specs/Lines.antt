-- What a line says. Assumes nothing.
use Rattle.std.specs.Prelude.{◌≡◌, List, ◌++◌, ◌+◌, ◌≤◌, ℕ, length}
use Rattle.lines.specs.declared.line.Line.{Line}

-- the room of a line, that of the longest
abbrev pub line_bytes : ℕ
line_bytes = 40

-- the bytes that are to be printed
abbrev pub text_of : Line → List ℕ
text_of l = l.text.bytes

-- l has room for n bytes more
abbrev pub Room : Line → ℕ → Type 0
Room l n = length (text_of l) + n ≤ line_bytes

-- y says what x says, and then xs: nothing is cut
abbrev pub Appends : Line → Line → List ℕ → Type 0
Appends x y xs = text_of y ≡ text_of x ++ xs

-- l says xs, and all of it is there
abbrev pub Prints : Line → List ℕ → Type 0
Prints l xs = text_of l ≡ xs
