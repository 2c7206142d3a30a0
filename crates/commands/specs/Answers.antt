-- Document 01, Answer numbers and Transactions: what a request is answered and what is replied, for any address, any table of commands and whatever is shown.
-- Assumes nothing.
use Rattle.std.specs.Prelude.{ℕ, Bool, cond, not, ◌&&◌, ◌||◌, List, [], ltb, eqb}
use Rattle.commands.specs.declared.Kind.{Kind}
use Rattle.commands.specs.declared.Kind.TheVariants.{ReadWrite, ReadOnly, WriteOnly, Block, Optional, Reserved}
use Rattle.frame.specs.Transactions.{reply_of, word_body}
use Rattle.frame.specs.declared.Request.{Request}
use Rattle.frame.specs.declared.Request.TheVariants.{Refused, Read, Write}

-- one side of the bus: its address by the write byte, its table of commands, whether its writes must carry PEC, the reply room that it asks for,
-- whether its state is sound, and what it shows: each word, and the bytes of each block, its count among them where it has one, with the answer
-- that a read of it is given
pub record Side : Type 0 where
  pub address : ℕ
  pub kinds : ℕ → Kind
  pub must_check : Bool
  pub least : ℕ
  pub sound : Bool
  pub word_answer : ℕ → ℕ
  pub word : ℕ → ℕ
  pub block_answer : ℕ → ℕ
  pub block : ℕ → List ℕ

-- ---- the answer

-- a read, by its command's row. 6: reserved command; 7: optional command not built; 8: read of a write-only command; else what comes with the block or the word (RULES 1.6 to 1.8)
abbrev pub read_answer : Side → ℕ → Kind → ℕ
read_answer d command Reserved = 6
read_answer d command Optional = 7
read_answer d command WriteOnly = 8
read_answer d command Block = d.block_answer command
read_answer d command ReadOnly = d.word_answer command
read_answer d command ReadWrite = d.word_answer command

-- a write, by its command's row. 6: reserved command; 7: optional command not built; 8: write to a read-only command (RULES 1.6 to 1.8)
abbrev pub write_answer : Kind → ℕ
write_answer Reserved = 6
write_answer Optional = 7
write_answer Block = 8
write_answer ReadOnly = 8
write_answer WriteOnly = 0
write_answer ReadWrite = 0

-- a write without PEC, where it must carry one, has the wrong form (RULES 15.2)
abbrev pub bare : Side → Bool → Bool
bare d checked = d.must_check && not checked

-- what a request is answered; 3, 4 and 5 come with it, 4 also for a bare write
abbrev pub request_answer : Side → Request → ℕ
request_answer d (Refused answer) = answer
request_answer d (Read command) = read_answer d command (d.kinds command)
request_answer d (Write command word checked) = cond (bare d checked) 4 (write_answer (d.kinds command))

-- 1: state isn't sound; 2: lent reply room too short; then the request's: so the lowest number above 0 whose condition holds (RULES 2.1)
unfoldable pub side_answer : Side → Request → ℕ → ℕ
side_answer d request room =
    cond (not d.sound) 1
    (cond (ltb room d.least) 2
    (request_answer d request))

-- answers 0 and 10 are served; every other is a refusal (RULES 2.2)
abbrev pub served : ℕ → Bool
served answer = eqb answer 0 || eqb answer 10

-- error code left, by the answer; after 1, 2 and 3 as it was (RULES 2.6)
unfoldable pub code_after : ℕ → ℕ → ℕ
code_after answer before =
    cond (eqb answer 0) 0
    (cond (eqb answer 4) 6
    (cond (eqb answer 5) 7
    (cond (eqb answer 6) 2
    (cond (eqb answer 7) 3
    (cond (eqb answer 8) 4
    (cond (eqb answer 9) 7
    (cond (eqb answer 10) 5
    before)))))))

-- ---- the reply

-- what a read shows, by its command's row: a block or a word
abbrev pub read_body : Side → ℕ → Kind → List ℕ
read_body d command Block = d.block command
read_body d command ReadOnly = word_body (d.word command)
read_body d command ReadWrite = word_body (d.word command)
read_body d command WriteOnly = []
read_body d command Optional = []
read_body d command Reserved = []

-- only a served read has reply bytes (RULES 5.4)
abbrev pub read_reply : Side → List ℕ → ℕ → Kind → ℕ → List ℕ
read_reply d bytes command kind answer = cond (served answer) (reply_of bytes (read_body d command kind)) []

abbrev pub side_reply : Side → List ℕ → Request → ℕ → List ℕ
side_reply d bytes (Refused n) answer = []
side_reply d bytes (Read command) answer = read_reply d bytes command (d.kinds command) answer
side_reply d bytes (Write command word checked) answer = []

-- a read's reply where its answer is that of its command's row
abbrev pub row_reply : Side → List ℕ → ℕ → Kind → List ℕ
row_reply d bytes command kind = read_reply d bytes command kind (read_answer d command kind)
