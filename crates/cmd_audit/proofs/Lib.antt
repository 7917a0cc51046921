mod AuditLemmas
mod SegmentLemmas
