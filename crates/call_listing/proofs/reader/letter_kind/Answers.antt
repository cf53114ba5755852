-- `call_listing::reader::letter_kind` meets its contract.
-- Assumes nothing.
use borrow.Author.Tests.{eq-eqb, ne_eqb}
use Rattle.theory_listing.specs.Grammar.{single_letter, master_letter, critical_letter, do_letter, ordered_letter, letter_kind}
use Rattle.call_listing.proofs.reader.letter_kind.Goals as goal

pub returns-then-letter-eq-SINGLE : goal.returns-then-letter-eq-SINGLE
unfolding letter_kind
returns-then-letter-eq-SINGLE c = rw (eq-eqb _ single_letter c.if-letter-eq-SINGLE.true)

pub returns-then-letter-eq-MASTER : goal.returns-then-letter-eq-MASTER
unfolding letter_kind
returns-then-letter-eq-MASTER c = rw (ne_eqb _ single_letter c.if-letter-eq-SINGLE.false, eq-eqb _ master_letter c.if-letter-eq-MASTER.true)

pub returns-then-letter-eq-CRITICAL : goal.returns-then-letter-eq-CRITICAL
unfolding letter_kind
returns-then-letter-eq-CRITICAL c =
    rw (ne_eqb _ single_letter c.if-letter-eq-SINGLE.false, ne_eqb _ master_letter c.if-letter-eq-MASTER.false, eq-eqb _ critical_letter c.if-letter-eq-CRITICAL.true)

pub returns-then-letter-eq-DO : goal.returns-then-letter-eq-DO
unfolding letter_kind
returns-then-letter-eq-DO c =
    rw (
      ne_eqb _ single_letter c.if-letter-eq-SINGLE.false,
      ne_eqb _ master_letter c.if-letter-eq-MASTER.false,
      ne_eqb _ critical_letter c.if-letter-eq-CRITICAL.false,
      eq-eqb _ do_letter c.if-letter-eq-DO.true,
    )

pub returns-then-letter-eq-ORDERED : goal.returns-then-letter-eq-ORDERED
unfolding letter_kind
returns-then-letter-eq-ORDERED c =
    rw (
      ne_eqb _ single_letter c.if-letter-eq-SINGLE.false,
      ne_eqb _ master_letter c.if-letter-eq-MASTER.false,
      ne_eqb _ critical_letter c.if-letter-eq-CRITICAL.false,
      ne_eqb _ do_letter c.if-letter-eq-DO.false,
      eq-eqb _ ordered_letter c.if-letter-eq-ORDERED.true,
    )

pub returns : goal.returns
unfolding letter_kind
returns c =
    rw (
      ne_eqb _ single_letter c.if-letter-eq-SINGLE.false,
      ne_eqb _ master_letter c.if-letter-eq-MASTER.false,
      ne_eqb _ critical_letter c.if-letter-eq-CRITICAL.false,
      ne_eqb _ do_letter c.if-letter-eq-DO.false,
      ne_eqb _ ordered_letter c.if-letter-eq-ORDERED.false,
    )
