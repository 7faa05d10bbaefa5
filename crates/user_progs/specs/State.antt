-- The states of a program from one call to the next, as plain data. In each the program waits for the reply to the call that
-- the state names. The programs of xv6's user folder read their files by one loop, a function over a descriptor, for
-- standard input and for each file word in turn; head and tee are own.
use Rattle.std.specs.Prelude.{ℕ, Bool, List}
use Rattle.mem_files.specs.Name.{Name, Bytes}
use Rattle.prog_parts.specs.declared.program.Program.{Program}

-- what is done with each input
pub data Filter : Type 0 where
  -- user/cat.c, `cat`: all of it is written
  copying : Filter
  -- head (own): so many lines of it are written
  heading : ℕ → Filter
  -- user/wc.c, `wc`: a line of its counts is written
  counting : Filter
  -- user/grep.c, `grep`: its lines that match this pattern are written
  searching : Bytes → Filter

-- an input
pub data Source : Type 0 where
  -- descriptor 0, where a program has no file words
  standard : Source
  -- the file of this name, open at this descriptor; the files of these names come later
  file : ℕ → Name → List Name → Source

-- the work on an input, at each of its calls
pub data Work : Type 0 where
  -- user/cat.c, `cat`: the read of up to 512 bytes
  cat_reads : Work
  -- and the write of what was read
  cat_writes : Work
  -- head (own): the read of a byte; of each input it takes so many lines, of which so many are left
  head_reads : ℕ → ℕ → Work
  -- and the write of it
  head_writes : ℕ → ℕ → Work
  -- user/wc.c, `wc`: the read; the LFs, words and bytes so far, and whether the last byte is of a word (`inword`)
  wc_reads : ℕ → ℕ → ℕ → Bool → Work
  -- its `printf` of the counts
  wc_writes : Work
  -- user/grep.c, `grep`: the read; its pattern, and the bytes that it keeps in its buffer
  grep_reads : Bytes → Bytes → Work
  -- the write of a line that matches; its pattern, and the bytes of the buffer behind that line
  grep_writes : Bytes → Bytes → Work

-- tee (own), at each of its calls; its files are open at these descriptors
pub data Tee : Type 0 where
  -- the open of the file of this name; the files of these names come later
  tee_opens : List ℕ → Name → List Name → Tee
  -- the read of standard input
  tee_reads : List ℕ → Tee
  -- the write of these bytes to descriptor 1
  tee_writes : List ℕ → Bytes → Tee
  -- the write of these bytes to the file at this place of the list, counted from 0
  tee_gives : List ℕ → ℕ → Bytes → Tee

pub data State : Type 0 where
  -- the `exec` that starts the program (user/sh.c, `runcmd`), with its arguments
  begins : Program → List Bytes → State
  -- user/echo.c: the write of an argument; these are left
  echo_word : List Bytes → State
  -- and of the space behind it
  echo_space : List Bytes → State
  -- `main` of cat, grep, wc and head: the open of the file of this name; the files of these names come later
  opens : Filter → Name → List Name → State
  -- a read or a write of the work on an input
  works : Work → Source → State
  -- `main` of cat, grep, wc and head: the close of a file; the files of these names come later
  closes : Filter → List Name → State
  tees : Tee → State
  -- the last write: echo's LF, or a message to descriptor 2 (`fprintf`)
  told : State
  -- `exit`
  ended : State
