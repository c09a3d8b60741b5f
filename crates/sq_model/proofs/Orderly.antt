-- On a legal trace the moves are in order.
use Rattle.sq_moves.specs.OpeningValue.{OpeningValue}
use Rattle.sq_moves.specs.Opening.{IsOpening}
use Rattle.sq_model.specs.Trace.{Trace}
use Rattle.sq_model.specs.Legal.{IsLegal}
use Rattle.sq_model.specs.Orderly.{IsOrderly}
use Rattle.sq_model.proofs.Notes.{prefix, numbered, tiles_notes, leaves_complete}
use Rattle.sq_model.proofs.Apart.{apart, cut_once, loaded_once}

pub legal_orderly : (o : OpeningValue) (t : Trace) → IsOpening o → IsLegal o t → IsOrderly o t
legal_orderly o t is legal = record {
  cut_once = cut_once o is t legal;
  loaded_once = loaded_once o is t legal;
  prefix = prefix o t legal;
  numbered = numbered o t legal;
  tiles = tiles_notes o t legal;
  apart = apart o is t legal;
  complete = leaves_complete o t legal;
}
