-- The model of a keeper in contracts, and what its calls preserve.
use Rattle.std.specs.Prelude.{ℕ, List, Option, None, Some}
use mathlib.Core.List.{IsPrefix}
use Rattle.desk_io.specs.Health.{Health, GoesOn}
use Rattle.desk_io.specs.Rows.{Rows}
use Rattle.desk_io.specs.Told.{TellsAsBefore}
use Rattle.keeper.specs.Account.{rows_by}
use Rattle.keeper.specs.declared.account.AccountEntry.{AccountEntry}

-- the model of a keeper
pub record KeeperSeen : Type 0 where
  -- the rows, if they are known
  pub rows : Option Rows
  -- how many commits were requested, whatever their results; the count saturates at 2^64 - 1
  pub commits : ℕ
  -- all loads and commits so far, in order
  pub account : List AccountEntry
  pub health : Health

abbrev pub either_rows : Option Rows → Option Rows → Option Rows
either_rows None by_account = by_account
either_rows (Some rows) by_account = Some rows

-- the rows that are kept: the known ones, or else those of the account
unfoldable pub kept_rows : KeeperSeen → Option Rows
kept_rows keeper = either_rows keeper.rows (rows_by keeper.account)

-- The rows are known after each call exactly if they were known before. The account only grows.
pub record KeeperGoesOn (old new : KeeperSeen) : Type 0 where
  pub telling : TellsAsBefore old.rows new.rows
  pub account : IsPrefix old.account new.account
  pub health : GoesOn old.health new.health
