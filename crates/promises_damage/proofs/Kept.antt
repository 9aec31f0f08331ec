-- What is promised of spoiled frames is kept. Assumes nothing.
use Rattle.rules_damage.proofs.Facts.{eleven_past, five_lost, five_wrong, two_lost, two_wrong, one_lost, one_wrong}
use Rattle.rules_damage.proofs.Most.{eleven_most}
use Rattle.rules_damage.proofs.SymbolStands.{decided_sent, lead_sent}
use Rattle.promises_damage.specs.Promises.{SymbolStands, LimitsTight, DamagePromised}
use Rattle.promises_damage.proofs.SpoiledBack.{spoiled_read_back, spoiled_counted}
use Rattle.promises_damage.proofs.SpoiledCompared.{spoiled_compared}
use Rattle.promises_damage.proofs.Spoiled1997.{spoiled_1997}
use Rattle.promises_damage.proofs.SpoiledFront.{spoiled_told, spoiled_found}
use Rattle.promises_damage.proofs.Symbols.{in_one_symbol, damage_row, any_damage}

symbol_stands : SymbolStands
symbol_stands rate n rec limit wrong lost s few = (
  decided_sent rate n rec limit wrong lost s few,
  lead_sent rate n rec limit wrong lost s few,
)

limits_tight : LimitsTight
limits_tight = record {
  eleven_lost = eleven_past;
  five_lost = five_lost;
  five_wrong = five_wrong;
  two_lost = two_lost;
  two_wrong = two_wrong;
  one_lost = one_lost;
  one_wrong = one_wrong;
}

pub kept : DamagePromised
kept = record {
  spoiled_read_back = spoiled_read_back;
  spoiled_told = spoiled_told;
  spoiled_found = spoiled_found;
  spoiled_counted = spoiled_counted;
  spoiled_compared = spoiled_compared;
  spoiled_1997 = spoiled_1997;
  symbol_stands = symbol_stands;
  limits_tight = limits_tight;
  words_apart = eleven_most;
  in_one_symbol = in_one_symbol;
  damage_row = damage_row;
  any_damage = any_damage;
}
