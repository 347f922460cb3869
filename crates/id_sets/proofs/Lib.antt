mod IdLaws
mod IdNumberLaws
mod IdPairLaws
