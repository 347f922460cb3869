pub mod WordReaders
pub mod OperatorReaders
pub mod StatementReaders
